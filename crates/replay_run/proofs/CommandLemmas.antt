-- The command that is read from a line is the one that the line spells, and no other.
use Rattle.std.proofs.Common.{◌≡◌, ◌≢◌, refl, ap, ◌∙◌, sym, subst, ℕ, [], ◌∷◌, ◌++◌, true, false, cond, length, inl, inr, ◌⊎◌, append_assoc}
use Rattle.std.specs.Prelude.{Option, Some, None, nat_lt, codes}
use Rattle.std.specs.Str.{bytes_eq}
use Rattle.std.proofs.lemmas.Bool.{cond-true, cond-false, ltb-true, lt-ltb, cases_Bool, false_from_ne_true, both_ways}
use Rattle.std.proofs.lemmas.Option.{same_Some, none-some, cond_some}
use Rattle.std.proofs.lemmas.Slice.Eq.{bytes_eq-Decides}
use Rattle.sentry_plain.specs.Texts.{Bytes}
use Rattle.sentry_base.specs.declared.protocol.level.Level.{Level}
use Rattle.replay_run.specs.declared.command.Command.{Command}
use Rattle.replay_run.specs.declared.command.Command.TheVariants.{Client, Hub, Tag, Message, Empty, Release, Session, End, Flush, Log, Close}
use Rattle.sentry_base.specs.Names.{level_name}
use Rattle.replay_run.specs.Commands.{IsWord, IsNumber, IsRelease, HasForm}
use Rattle.replay_run.specs.Reading.{◌>>=◌, cut, is_word, number_of, level_of, client_of, hub_of, tag_of, message_of, empty_of, release_of, session_of, end_of, flush_of, log_of, close_of, form_of, command_of}
use Rattle.replay_run.proofs.ReadingLemmas.{cut-solid, cut_some, number_some, number-is, number_solid, level_some, level-is, level_solid, is_word_some, is_word-is}

-- what was read, and what came of it
bind_cases : {A B : Type 0} (P : Type 0) (o : Option A) (go : A → Option B) (y : B) → (o >>= go) ≡ Some y → ((x : A) → o ≡ Some x → go x ≡ Some y → P) → P
bind_cases P None go y e then = absurd (none-some y e)
bind_cases P (Some x) go y e then = then x refl e

-- a chain of words either takes this one, or goes on
or_next : {A : Type 0} (text word : Bytes) (x rest z : A) → cond (bytes_eq text word) x rest ≡ z → ((text ≡ word) × (x ≡ z)) ⊎ (rest ≡ z)
or_next text word x rest z e =
    elim (cases_Bool (bytes_eq text word)) [
      | inl same ↦ inl ((bytes_eq-Decides text word).0 same, sym (cond-true (bytes_eq text word) x rest same) ∙ e)
      | inr other ↦ inr (sym (cond-false (bytes_eq text word) x rest other) ∙ e)
    ]

-- two words with a space between them
spaced_two : (a b : Bytes) → (a ++ (32 ∷ [])) ++ b ≡ a ++ (32 ∷ b)
spaced_two a b = simp append_assoc

-- three words with a space between each two
spaced : (a b c : Bytes) → (((a ++ (32 ∷ [])) ++ b) ++ (32 ∷ [])) ++ c ≡ a ++ (32 ∷ (b ++ (32 ∷ c)))
spaced a b c = simp append_assoc

-- from a form to the command

client-is : (text : Bytes) (release : Option Bytes) → IsRelease text release → client_of text ≡ Some (Client release)
unfolding client_of
client-is text None h = cond-true (bytes_eq text (codes "-")) _ _ ((bytes_eq-Decides text (codes "-")).1 h)
client-is text (Some release) h =
    let other : bytes_eq text (codes "-") ≡ false = false_from_ne_true _ (λ same. h.2 (sym h.0 ∙ (bytes_eq-Decides text (codes "-")).0 same)) in
    let P : Bytes → Type 0 = λ t. is_word t ≡ true in
    cond-false (bytes_eq text (codes "-")) _ _ other
    ∙ cond-true (is_word text) _ _ (subst P (sym h.0) (is_word-is release h.1))
    ∙ ap (λ t. Some (Client (Some t))) h.0

tag-is : (number key value : Bytes) (hub : ℕ) → IsNumber number hub → IsWord key → tag_of (number ++ (32 ∷ (key ++ (32 ∷ value)))) ≡ Some (Tag hub key value)
unfolding tag_of
tag-is number key value hub h word =
    rw (cut-solid number (key ++ (32 ∷ value)) (number_solid number hub h))
    (rw (number-is number hub h)
    (rw (cut-solid key value word.solid)
    (cond-true (nat_lt 0 (length key)) _ _ (lt-ltb 0 (length key) word.some))))

message-is : (number text : Bytes) (hub : ℕ) (level : Level) → IsNumber number hub → message_of (number ++ (32 ∷ (level_name level ++ (32 ∷ text)))) ≡ Some (Message hub level text)
unfolding message_of
message-is number text hub level h =
    rw (cut-solid number (level_name level ++ (32 ∷ text)) (number_solid number hub h))
    (rw (number-is number hub h)
    (rw (cut-solid (level_name level) text (level_solid level))
    (rw (level-is level) refl)))

log-is : (number text : Bytes) (hub : ℕ) → IsNumber number hub → log_of (number ++ (32 ∷ text)) ≡ Some (Log hub text)
unfolding log_of
log-is number text hub h =
    rw (cut-solid number text (number_solid number hub h))
    (rw (number-is number hub h) refl)

numbered-is : (make : ℕ → Command) (text : Bytes) (number : ℕ) → IsNumber text number
    → (number_of text >>= λ n. Some (make n)) ≡ Some (make number)
numbered-is make text number h = ap (λ o. o >>= λ n. Some (make n)) (number-is text number h)

pub command-is : (line : Bytes) (command : Command) → HasForm line command → command_of line ≡ Some command
unfolding command_of form_of hub_of empty_of release_of session_of end_of flush_of close_of
command-is line (Client release) h = ap command_of h.2 ∙ client-is h.0 release h.1
command-is line (Hub client) h = ap command_of h.2 ∙ numbered-is Hub h.0 client h.1
command-is line (Tag hub key value) h =
    ap command_of (h.3 ∙ ap (λ rest. codes "tag " ++ rest) (spaced h.0 key value)) ∙ tag-is h.0 key value hub h.1 h.2
command-is line (Message hub level text) h =
    ap command_of (h.2 ∙ ap (λ rest. codes "message " ++ rest) (spaced h.0 (level_name level) text)) ∙ message-is h.0 text hub level h.1
command-is line (Empty client) h = ap command_of h.2 ∙ numbered-is Empty h.0 client h.1
command-is line (Release hub) h = ap command_of h.2 ∙ numbered-is Release h.0 hub h.1
command-is line (Session hub) h = ap command_of h.2 ∙ numbered-is Session h.0 hub h.1
command-is line (End hub) h = ap command_of h.2 ∙ numbered-is End h.0 hub h.1
command-is line (Flush client) h = ap command_of h.2 ∙ numbered-is Flush h.0 client h.1
command-is line (Log hub text) h =
    ap command_of (h.2 ∙ ap (λ rest. codes "log " ++ rest) (spaced_two h.0 text)) ∙ log-is h.0 text hub h.1
command-is line (Close client) h = ap command_of h.2 ∙ numbered-is Close h.0 client h.1

-- from the command to a form

client_named : (text : Bytes) (command : Command) → (text ≢ codes "-") → cond (is_word text) (Some (Client (Some text))) None ≡ Some command → HasForm (codes "client " ++ text) command
client_named text command other e =
    let some = cond_some (is_word text) (Client (Some text)) command e in
    subst (HasForm (codes "client " ++ text)) some.1 (text, (refl, is_word_some text some.0, other), refl)

client_form : (text : Bytes) (command : Command) → client_of text ≡ Some command → HasForm (codes "client " ++ text) command
unfolding client_of
client_form text command e =
    elim (cases_Bool (bytes_eq text (codes "-"))) [
      | inl same ↦
          let made = same_Some (Client None) command (sym (cond-true (bytes_eq text (codes "-")) _ _ same) ∙ e) in
          subst (HasForm (codes "client " ++ text)) made (text, (bytes_eq-Decides text (codes "-")).0 same, refl)
      | inr other ↦
          client_named text command
          (λ same. both_ways (bytes_eq text (codes "-")) other ((bytes_eq-Decides text (codes "-")).1 same))
          (sym (cond-false (bytes_eq text (codes "-")) _ _ other) ∙ e)
    ]

tag_built : (text number rest key value : Bytes) (hub : ℕ) (command : Command) → cut text ≡ Some (number, rest) → number_of number ≡ Some hub → cut rest ≡ Some (key, value) → cond (nat_lt 0 (length key)) (Some (Tag hub key value)) None ≡ Some command → HasForm (codes "tag " ++ text) command
tag_built text number rest key value hub command first digits second e =
    let some = cond_some (nat_lt 0 (length key)) (Tag hub key value) command e in
    let front = cut_some text number rest first in
    let back = cut_some rest key value second in
    subst (HasForm (codes "tag " ++ text)) some.1 (
      number,
      number_some number hub digits,
      record { some = ltb-true 0 (length key) some.0; solid = back.1 },
      ap (λ t. codes "tag " ++ t) (front.0 ∙ ap (λ r. number ++ (32 ∷ r)) back.0 ∙ sym (spaced number key value)),
    )

tag_form : (text : Bytes) (command : Command) → tag_of text ≡ Some command → HasForm (codes "tag " ++ text) command
unfolding tag_of
tag_form text command e =
    bind_cases (HasForm (codes "tag " ++ text) command) (cut text) _ command e (λ first front e.
    bind_cases (HasForm (codes "tag " ++ text) command) (number_of first.0) _ command e (λ hub digits e.
    bind_cases (HasForm (codes "tag " ++ text) command) (cut first.1) _ command e (λ second back e.
    tag_built text first.0 first.1 second.0 second.1 hub command front digits back e)))

message_built : (text number rest word message : Bytes) (hub : ℕ) (level : Level) → cut text ≡ Some (number, rest) → number_of number ≡ Some hub → cut rest ≡ Some (word, message) → level_of word ≡ Some level → HasForm (codes "message " ++ text) (Message hub level message)
message_built text number rest word message hub level first digits second named =
    let front = cut_some text number rest first in
    let back = cut_some rest word message second in (
      number,
      number_some number hub digits,
      ap (λ t. codes "message " ++ t) (front.0 ∙ ap (λ r. number ++ (32 ∷ r)) (back.0 ∙ ap (λ w. w ++ (32 ∷ message)) (level_some word level named)) ∙ sym (spaced number (level_name level) message)),
    )

message_form : (text : Bytes) (command : Command) → message_of text ≡ Some command → HasForm (codes "message " ++ text) command
unfolding message_of
message_form text command e =
    bind_cases (HasForm (codes "message " ++ text) command) (cut text) _ command e (λ first front e.
    bind_cases (HasForm (codes "message " ++ text) command) (number_of first.0) _ command e (λ hub digits e.
    bind_cases (HasForm (codes "message " ++ text) command) (cut first.1) _ command e (λ second back e.
    bind_cases (HasForm (codes "message " ++ text) command) (level_of second.0) _ command e (λ level named e.
    subst (HasForm (codes "message " ++ text)) (same_Some _ _ e) (message_built text first.0 first.1 second.0 second.1 hub level front digits back named)))))

log_built : (text number message : Bytes) (hub : ℕ) → cut text ≡ Some (number, message) → number_of number ≡ Some hub → HasForm (codes "log " ++ text) (Log hub message)
log_built text number message hub first digits =
    let front = cut_some text number message first in (
      number,
      number_some number hub digits,
      ap (λ t. codes "log " ++ t) (front.0 ∙ sym (spaced_two number message)),
    )

log_form : (text : Bytes) (command : Command) → log_of text ≡ Some command → HasForm (codes "log " ++ text) command
unfolding log_of
log_form text command e =
    bind_cases (HasForm (codes "log " ++ text) command) (cut text) _ command e (λ first front e.
    bind_cases (HasForm (codes "log " ++ text) command) (number_of first.0) _ command e (λ hub digits e.
    subst (HasForm (codes "log " ++ text)) (same_Some _ _ e) (log_built text first.0 first.1 hub front digits)))

-- a form that is a word and a number
numbered_form : (front : Bytes) (make : ℕ → Command) → ((number : ℕ) (text : Bytes) → IsNumber text number → HasForm (front ++ text) (make number))
    → (text : Bytes) (command : Command) → (number_of text >>= λ n. Some (make n)) ≡ Some command → HasForm (front ++ text) command
numbered_form front make has_form text command e =
    bind_cases (HasForm (front ++ text) command) (number_of text) _ command e (λ number is e.
    subst (HasForm (front ++ text)) (same_Some _ _ e) (has_form number text (number_some text number is)))

-- the first word is known, and so is the form
formed : (line word rest front : Bytes) (command : Command) → cut line ≡ Some (word, rest) → word ≡ front → HasForm (front ++ (32 ∷ rest)) command → HasForm line command
formed line word rest front command found same form =
    let P : Bytes → Type 0 = λ text. HasForm text command in
    subst P (sym ((cut_some line word rest found).0 ∙ ap (λ w. w ++ (32 ∷ rest)) same)) form

form_form : (line word rest : Bytes) (command : Command) → cut line ≡ Some (word, rest) → form_of word rest ≡ Some command → HasForm line command
unfolding form_of hub_of empty_of release_of session_of end_of flush_of close_of
form_form line word rest command found e =
    elim (or_next word (codes "client") (client_of rest) _ (Some command) e) [
      | inl h ↦ formed line word rest (codes "client") command found h.0 (client_form rest command h.1)
      | inr e ↦ elim (or_next word (codes "hub") (hub_of rest) _ (Some command) e) [
        | inl h ↦ formed line word rest (codes "hub") command found h.0 (numbered_form (codes "hub ") Hub (λ n text is. (text, is, refl)) rest command h.1)
        | inr e ↦ elim (or_next word (codes "tag") (tag_of rest) _ (Some command) e) [
          | inl h ↦ formed line word rest (codes "tag") command found h.0 (tag_form rest command h.1)
          | inr e ↦ elim (or_next word (codes "message") (message_of rest) _ (Some command) e) [
            | inl h ↦ formed line word rest (codes "message") command found h.0 (message_form rest command h.1)
            | inr e ↦ elim (or_next word (codes "empty") (empty_of rest) _ (Some command) e) [
              | inl h ↦ formed line word rest (codes "empty") command found h.0 (numbered_form (codes "empty ") Empty (λ n text is. (text, is, refl)) rest command h.1)
              | inr e ↦ elim (or_next word (codes "release") (release_of rest) _ (Some command) e) [
                | inl h ↦ formed line word rest (codes "release") command found h.0 (numbered_form (codes "release ") Release (λ n text is. (text, is, refl)) rest command h.1)
                | inr e ↦ elim (or_next word (codes "session") (session_of rest) _ (Some command) e) [
                  | inl h ↦ formed line word rest (codes "session") command found h.0 (numbered_form (codes "session ") Session (λ n text is. (text, is, refl)) rest command h.1)
                  | inr e ↦ elim (or_next word (codes "end") (end_of rest) _ (Some command) e) [
                    | inl h ↦ formed line word rest (codes "end") command found h.0 (numbered_form (codes "end ") End (λ n text is. (text, is, refl)) rest command h.1)
                    | inr e ↦ elim (or_next word (codes "flush") (flush_of rest) _ (Some command) e) [
                      | inl h ↦ formed line word rest (codes "flush") command found h.0 (numbered_form (codes "flush ") Flush (λ n text is. (text, is, refl)) rest command h.1)
                      | inr e ↦ elim (or_next word (codes "log") (log_of rest) _ (Some command) e) [
                        | inl h ↦ formed line word rest (codes "log") command found h.0 (log_form rest command h.1)
                        | inr e ↦ elim (or_next word (codes "close") (close_of rest) None (Some command) e) [
                          | inl h ↦ formed line word rest (codes "close") command found h.0 (numbered_form (codes "close ") Close (λ n text is. (text, is, refl)) rest command h.1)
                          | inr e ↦ absurd (none-some command e)
                        ]
                      ]
                    ]
                  ]
                ]
              ]
            ]
          ]
        ]
      ]
    ]

pub command_form : (line : Bytes) (command : Command) → command_of line ≡ Some command → HasForm line command
unfolding command_of
command_form line command e =
    bind_cases (HasForm line command) (cut line) _ command e (λ first found e.
    form_form line first.0 first.1 command found e)
