-- What is sent, and how sessions end, as changes.
use Rattle.std.proofs.Common.{◌≡◌, ◌≢◌, refl, ap, ◌∙◌, sym, subst, ℕ, ◌+◌, List, [], ◌∷◌, Bool, true, false, cond, arith}
use Rattle.std.specs.Prelude.{Option, Some, None, if◌then◌else◌, ◌==◌}
use Rattle.sentry_plain.specs.Tables.{value_at, replace_at, without}
use Rattle.sentry_base.specs.declared.protocol.envelope.Envelope.{Envelope}
use Rattle.sentry_base.specs.declared.protocol.keys.ClientKey.{ClientKey}
use Rattle.sentry_base.specs.declared.protocol.keys.Label.{Label}
use Rattle.sentry_base.specs.declared.protocol.keys.SessionKey.{SessionKey}
use Rattle.sentry_base.specs.declared.protocol.log.Log.{Log}
use Rattle.sentry_base.specs.declared.protocol.metric.Metric.{Metric}
use Rattle.sentry_base.specs.declared.protocol.session.SessionStatus.{SessionStatus}
use Rattle.sentry_base.specs.declared.protocol.session.SessionUpdate.{SessionUpdate}
use Rattle.sentry_options.specs.Meanings.{Meanings}
use Rattle.sentry_sessions.specs.SessionQueues.{enqueued, envelopes_on}
use Rattle.sentry_sessions.specs.Sessions.{SessionEntry, SessionEnd, crash, closing, closed, closing_status, end_of, end_status, session_of, pending_update, update_of}
use Rattle.sentry_base.specs.declared.protocol.session.SessionStatus.TheVariants as session_status
use Rattle.std.specs.BTreeMap.{is_at}
use Rattle.std.specs.Ordering.{nat_cmp}
use Rattle.std.specs.Option.{option_or}
use Rattle.sentry_sessions.specs.declared.session.record.SessionStart.{SessionStart}
use Rattle.sentry_hub_table.specs.declared.hub.HubState.{HubState}
use Rattle.sentry_state.specs.declared.state.NextNumbers.{NextNumbers}
use Rattle.sentry_state.specs.Worlds.{World, ClientHistory, SessionHistory, span_table}
use Rattle.sentry_state.specs.Outcomes.{client_at, session_at}
use Rattle.sentry_state.specs.Changes.{with_new_session, with_client_history, with_client_entry}
use Rattle.sentry_hub_table.specs.Hubs.{with_session}
use Rattle.sentry_sending.specs.Sending.{Sending, send, send_nothing, send_some, after_sending, is_session_named, queue_update, end_session, end_unnamed_session, release_session, replace_session}
use Rattle.sentry_telemetry.specs.declared.flushes.Flush.{Flush}
use Rattle.sentry_telemetry.specs.declared.flushes.Flush.TheVariants.{Closing}
use Rattle.sentry_telemetry.specs.Flushes.{flush_queues, flushed_envelopes, after_flush, is_closing}
use Rattle.sentry_telemetry.specs.Telemetry.{accept_log, accept_metric, keep_log, keep_metric}
use Rattle.sentry_laws.proofs.Effects.{Came, a_log, a_metric, a_close, session_named, session_begun, came_to_queues}
use Rattle.sentry_laws.proofs.Changes.{Changes, IsArrival, nothing, one, both, log_came, metric_came, session_ended, flush_came, sets_session, arrives, accepts, accepts_none, loses, starts_session, changes_session, ends_session}
use Rattle.sentry_laws.proofs.Tables.{own_replaced}
use Rattle.sentry_laws.proofs.Parts.{flush_part, queue_update_part, release_part}
use Rattle.sentry_laws.proofs.Trails.{found_under, Sends, sends_some, sends_unless, quiet_last}

tag-by : {X : Type 0} (b : Bool) (o : Option X) (x : X) → cond b o None ≡ Some x → b ≡ true
tag-by true o x h = refl
tag-by false o x h = absurd cc

module _ {P C : Type 0} where
  -- ---- the hubs, the tag, the next numbers and the spans stay

  pub release_hubs : (number : ℕ) (hub : HubState P) (now : ℕ) (world : World P C)
      → (release_session number hub now world).after.hubs ≡ replace_at world.hubs number (with_session hub None)
  release_hubs number hub now world = release_part (λ (w : World P C). w.hubs) (λ w b. refl) (λ w c. refl) (λ w s. refl)
      number hub now world

  pub release_tag : (number : ℕ) (hub : HubState P) (now : ℕ) (world : World P C)
      → (release_session number hub now world).after.tag ≡ world.tag
  release_tag number hub now world = release_part (λ (w : World P C). w.tag) (λ w b. refl) (λ w c. refl) (λ w s. refl)
      number hub now world

  pub release_next : (number : ℕ) (hub : HubState P) (now : ℕ) (world : World P C)
      → (release_session number hub now world).after.next ≡ world.next
  release_next number hub now world = release_part (λ (w : World P C). w.next) (λ w b. refl) (λ w c. refl)
      (λ w s. refl) number hub now world

  pub release_spans : (number : ℕ) (hub : HubState P) (now : ℕ) (world : World P C)
      → span_table (release_session number hub now world).after ≡ span_table world
  release_spans number hub now world = release_part (λ (w : World P C). span_table w) (λ w b. refl) (λ w c. refl)
      (λ w s. refl) number hub now world

  -- ---- the other sessions stay

  pub some_sessions : {X : Type 0} (world : World P C) (o : Option X) (go : X → Sending P C)
      → ((x : X) → (go x).after.sessions ≡ world.sessions) → (send_some world o go).after.sessions ≡ world.sessions
  some_sessions world None go h = refl
  some_sessions world (Some x) go h = h x

  pub queue_update_sessions : (key : ClientKey) (update : SessionUpdate) (world : World P C)
      → (queue_update key update world).after.sessions ≡ world.sessions
  queue_update_sessions key update world = queue_update_part (λ (w : World P C). w.sessions) (λ w b. refl) (λ w c. refl)
      key update world

  ended-by : (key : SessionKey) (status : Option SessionStatus) (now : ℕ) (world : World P C) (o : Option SessionHistory)
      (go : SessionHistory → Sending P C)
      → ((session : SessionHistory) → (go session).after.sessions ≡ without world.sessions key.number)
      → value_at (without world.sessions key.number) key.number ≡ None
      → (o ≡ None → value_at world.sessions key.number ≡ None)
      → value_at (send_some world o go).after.sessions key.number ≡ None
  ended-by key status now world None go h k l = l refl
  ended-by key status now world (Some session) go h k l = ap (λ sessions. value_at sessions key.number) (h session) ∙ k

  -- a session that was ended is no longer held
  pub ended_gone : (key : SessionKey) (status : Option SessionStatus) (now : ℕ) (world : World P C)
      → value_at (without world.sessions key.number) key.number ≡ None
      → (session_at world key ≡ None → value_at world.sessions key.number ≡ None)
      → value_at (end_session key status now world).after.sessions key.number ≡ None
  unfolding end_session
  ended_gone key status now world k l =
      ended-by key status now world (session_at world key) _
      (λ session. ap (λ sessions. without sessions key.number)
      (some_sessions world (pending_update (session_of session.start (closed status now ∷ session.history))) _
      (λ update. queue_update_sessions session.start.client update world))) k l

  -- the hub after it gave up its session
  pub found_released : (number : ℕ) (hub : HubState P) (now : ℕ) (world : World P C) → value_at world.hubs number ≡ Some hub
      → value_at (release_session number hub now world).after.hubs number ≡ Some (with_session hub None)
  found_released number hub now world found =
      ap (λ hubs. value_at hubs number) (release_hubs number hub now world) ∙ own_replaced world.hubs number
      (with_session hub None) hub found

  pub flush_hubs : (flush : Flush) (key : ClientKey) (world : World P C) → (flush_queues flush key world).after.hubs
      ≡ world.hubs
  flush_hubs flush key world = flush_part (λ (w : World P C). w.hubs) (λ w b. refl) (λ w c. refl) flush key world

  pub own_tag : (key : ClientKey) (world : World P C) (client : ClientHistory C) → client_at world key ≡ Some client
      → (key.tag == world.tag) ≡ true
  own_tag key world client found = tag-by (key.tag == world.tag) (value_at world.clients key.number) client found

  after_client : (label : Label) (sent : List (ClientKey × Envelope)) (world : World P C) (key : ClientKey)
      → client_at (after_sending label sent world) key ≡ client_at world key
  after_client label [] world key = refl
  after_client label (first ∷ rest) world key = refl

  replaced_client : (world : World P C) (key : ClientKey) (old new : ClientHistory C) → client_at world key ≡ Some old
      → client_at (with_client_history world key new) key ≡ Some new
  replaced_client world key old new found =
      ap (λ b. if b then value_at (replace_at world.clients key.number new) key.number else None)
      (own_tag key world old found)
      ∙ own_replaced world.clients key.number new old (found_under world.tag world.clients key.tag key.number old found)

  left-unless : (flush : Flush) (key : ClientKey) (world : World P C) (client : ClientHistory C)
      → client_at world key ≡ Some client → (b : Bool)
      → (left : ClientHistory C)
      × (client_at (if b then send_nothing world else send key client
      (flushed_envelopes flush client.options.plain client.queues)
      (with_client_history world key (after_flush flush client))).after key ≡ Some left) × (client.label ≡ left.label)
  left-unless flush key world client found true = (client, found, refl)
  left-unless flush key world client found false =
      let sent = (send key client (flushed_envelopes flush client.options.plain client.queues)
      (with_client_history world key (after_flush flush client))).sent in (
        after_flush flush client,
        after_client client.label sent (with_client_history world key (after_flush flush client))
            key ∙ replaced_client world key client (after_flush flush client) found,
        refl,
      )

  left-some : (flush : Flush) (key : ClientKey) (world : World P C) (client : ClientHistory C)
      (o : Option (ClientHistory C)) → client_at world key ≡ o → o ≡ Some client
      → (left : ClientHistory C)
      × (client_at (send_some world o (λ c. if c.closed then send_nothing world else send key c
      (flushed_envelopes flush c.options.plain c.queues) (with_client_history world key (after_flush flush c)))).after key
      ≡ Some left) × (client.label ≡ left.label)
  left-some flush key world client None at e = absurd cc
  left-some flush key world client (Some held) at e =
      let same : held ≡ client = cc in
      let l = left-unless flush key world held at held.closed in
      (l.0, l.1, ap (λ (c : ClientHistory C). c.label) (sym same) ∙ l.2)

  -- a client after a flush of its queues has the label that it had
  pub flushed_client : (flush : Flush) (key : ClientKey) (world : World P C) (client : ClientHistory C)
      → client_at world key ≡ Some client
      → (left : ClientHistory C) × (client_at (flush_queues flush key world).after key ≡ Some left)
      × (client.label ≡ left.label)
  unfolding flush_queues
  flushed_client flush key world client found = left-some flush key world client (client_at world key) refl found

-- ---- the next numbers are not read

module _ {P C : Type 0} (next : NextNumbers) where
  -- the same is sent, and the same is left but for the next numbers
  record SameBut (one_ other : Sending P C) : Type 0 where
    sent : other.sent ≡ one_.sent
    after : other.after ≡ record one_.after { next = next }

  after_but : (label : Label) (sent : List (ClientKey × Envelope)) (world : World P C) → after_sending label sent
      (record world { next = next }) ≡ record (after_sending label sent world) { next = next }
  after_but label [] world = refl
  after_but label (first ∷ rest) world = refl

  some_but : {X : Type 0} (world : World P C) (o : Option X) (go other : X → Sending P C)
      → ((x : X) → SameBut (go x) (other x)) → SameBut (send_some world o go)
      (send_some (record world { next = next }) o other)
  some_but world None go other h = record { sent = refl; after = refl }
  some_but world (Some x) go other h = h x

  unless_but : (world : World P C) (b : Bool) (go other : Sending P C) → SameBut go other
      → SameBut (if b then send_nothing world else go) (if b then send_nothing (record world { next = next })
      else other)
  unless_but world true go other h = record { sent = refl; after = refl }
  unless_but world false go other h = h

  queue_update_but : (key : ClientKey) (update : SessionUpdate) (world : World P C)
      → SameBut (queue_update key update world) (queue_update key update (record world { next = next }))
  unfolding queue_update
  queue_update_but key update world = some_but world (client_at world key) _ _ (λ client.
      let queued = with_client_history world key (with_client_entry (enqueued update) client) in
      let sending = send key client (envelopes_on client.options.plain.session_mode update client.queues.sessions)
      queued in
      unless_but world client.closed _ _ (record { sent = refl; after = after_but client.label sending.sent queued }))

  end_session_but : (key : SessionKey) (status : Option SessionStatus) (now : ℕ) (world : World P C)
      → SameBut (end_session key status now world) (end_session key status now (record world { next = next }))
  unfolding end_session
  end_session_but key status now world = some_but world (session_at world key) _ _ (λ session.
      let queued = some_but world (pending_update (session_of session.start (closed status now ∷ session.history))) _ _
      (λ update. queue_update_but session.start.client update world) in
      record {
        sent = queued.sent;
        after = ap (λ (w : World P C). record w { sessions = without w.sessions key.number })
            queued.after;
      })

  end_unnamed_but : (name : Option SessionKey) (now : ℕ) (world : World P C)
      → SameBut (end_unnamed_session name now world) (end_unnamed_session name now (record world { next = next }))
  unfolding end_unnamed_session
  end_unnamed_but name now world =
      some_but world name _ _ (λ key. unless_but world (is_session_named key world.hubs) _ _
      (end_session_but key None now world))

  release_but : (number : ℕ) (hub : HubState P) (now : ℕ) (world : World P C)
      → SameBut (release_session number hub now world) (release_session number hub now (record world { next = next }))
  release_but number hub now world =
      end_unnamed_but hub.stack.top.session now
      (record world { hubs = replace_at world.hubs number (with_session hub None) })

-- ---- the sessions are not read where an update is queued

module _ {P C : Type 0} (sessions : List (ℕ × SessionHistory)) where
  -- the same is sent, and the same is left but for the sessions
  record SameButSessions (one_ other : Sending P C) : Type 0 where
    sent : other.sent ≡ one_.sent
    after : other.after ≡ record one_.after { sessions = sessions }

  after_but_sessions : (label : Label) (sent : List (ClientKey × Envelope)) (world : World P C) → after_sending label sent
      (record world { sessions = sessions }) ≡ record (after_sending label sent world) { sessions = sessions }
  after_but_sessions label [] world = refl
  after_but_sessions label (first ∷ rest) world = refl

  some_but_sessions : {X : Type 0} (world : World P C) (o : Option X) (go other : X → Sending P C)
      → ((x : X) → SameButSessions (go x) (other x)) → SameButSessions (send_some world o go)
      (send_some (record world { sessions = sessions }) o other)
  some_but_sessions world None go other h = record { sent = refl; after = refl }
  some_but_sessions world (Some x) go other h = h x

  unless_but_sessions : (world : World P C) (b : Bool) (go other : Sending P C) → SameButSessions go other
      → SameButSessions (if b then send_nothing world else go)
      (if b then send_nothing (record world { sessions = sessions }) else other)
  unless_but_sessions world true go other h = record { sent = refl; after = refl }
  unless_but_sessions world false go other h = h

  update_but_sessions : (key : ClientKey) (update : SessionUpdate) (world : World P C)
      → SameButSessions (queue_update key update world) (queue_update key update (record world { sessions = sessions }))
  unfolding queue_update
  update_but_sessions key update world = some_but_sessions world (client_at world key) _ _ (λ client.
      let queued = with_client_history world key (with_client_entry (enqueued update) client) in
      let sending = send key client (envelopes_on client.options.plain.session_mode update client.queues.sessions)
      queued in
      unless_but_sessions world client.closed _ _
      (record { sent = refl; after = after_but_sessions client.label sending.sent queued }))

-- ---- what is told of a session that was closed

closing_ended : (status : Option SessionStatus) → closing_status status ≢ session_status.Ok
closing_ended None e = absurd cc
closing_ended (Some session_status.Crashed) e = absurd cc
closing_ended (Some session_status.Abnormal) e = absurd cc
closing_ended (Some session_status.Exited) e = absurd cc
closing_ended (Some session_status.Ok) e = absurd cc

closed_ended : (end : Option SessionEnd) (status : Option SessionStatus) (now : ℕ)
    → end_status (option_or end (Some (closing status now))) ≢ session_status.Ok
closed_ended None status now = closing_ended status
closed_ended (Some crash) status now = λ e. absurd cc
closed_ended (Some (closing first moment)) status now = closing_ended first

pending-by : (b : Bool) (told update : SessionUpdate) → (if b then Some told else None) ≡ Some update → told ≡ update
pending-by true told update e = cc
pending-by false told update e = absurd cc

-- an update that is pending has the id of the session, and its status
pub pending_told : (start : SessionStart) (history : List SessionEntry) (update : SessionUpdate)
    → pending_update (session_of start history) ≡ Some update
    → (start.session_id ≡ update.session_id) × (end_status (end_of history) ≡ update.status)
unfolding session_of
pending_told start history update e =
    let same = pending-by (session_of start history).dirty (update_of (session_of start history)) update e in
    (ap (λ (u : SessionUpdate). u.session_id) same, ap (λ (u : SessionUpdate). u.status) same)

without-at : (b : Bool) (n : ℕ) (x : SessionHistory) (e : ℕ × SessionHistory) (es : List (ℕ × SessionHistory))
    → is_at (nat_cmp n) e.0 ≡ b → without (replace_at es n x) n ≡ without es n
    → without (cond b ((e.0, x) ∷ es) (e ∷ replace_at es n x)) n ≡ cond b es (e ∷ without es n)
without-at true n x e es q h = ap (λ t. cond t es ((e.0, x) ∷ without es n)) q
without-at false n x e es q h =
    ap (λ t. cond t (replace_at es n x) (e ∷ without (replace_at es n x) n)) q ∙ ap (λ l. e ∷ l) h

-- what was replaced is removed
without_replaced : (m : List (ℕ × SessionHistory)) (n : ℕ) (x : SessionHistory)
    → without (replace_at m n x) n ≡ without m n
without_replaced [] n x = refl
without_replaced (e ∷ es) n x = without-at (is_at (nat_cmp n) e.0) n x e es refl (without_replaced es n x)

module _ {P C : Type 0} (meanings : C → Meanings) where
  -- ---- what comes to queues

  queued : (key : ClientKey) (update : SessionUpdate) (world : World P C) → IsArrival world (session_ended update)
      → Sends meanings None world [] (queue_update key update world)
  unfolding queue_update
  queued key update world told_ =
      sends_some meanings None (client_at world key) (λ client found. sends_unless meanings None client.closed
      (λ open_. record { changes = one (arrives world key client (session_ended update) refl found open_ told_) }))

  -- the same where other sessions are held
  queued_beside : (client : ClientKey) (world : World P C) (sessions : List (ℕ × SessionHistory))
      (o : Option SessionUpdate)
      → ((update : SessionUpdate) → o ≡ Some update
      → IsArrival (record world { sessions = sessions }) (session_ended update))
      → Changes meanings None (record world { sessions = sessions }) []
      (send_some world o (λ update. queue_update client update world)).sent
      (record (send_some world o (λ update. queue_update client update world)).after { sessions = sessions })
  queued_beside client world sessions None told_ = nothing (record world { sessions = sessions })
  queued_beside client world sessions (Some update) told_ =
      let but = update_but_sessions sessions client update world in
      subst (λ s. Changes meanings None (record world { sessions = sessions }) [] s
      (record (queue_update client update world).after { sessions = sessions })) but.sent
      (subst (λ (w : World P C). Changes meanings None (record world { sessions = sessions }) []
      (queue_update client update (record world { sessions = sessions })).sent w) but.after
      (queued client update (record world { sessions = sessions }) (told_ update refl)).changes)

  pub flushes : (flush : Flush) → is_closing flush ≡ false → (key : ClientKey) (world : World P C)
      → Sends meanings None world [] (flush_queues flush key world)
  unfolding flush_queues
  flushes flush more key world =
      sends_some meanings None (client_at world key) (λ client found. sends_unless meanings None client.closed
      (λ open_. record { changes = one (arrives world key client (flush_came flush) refl found open_ more) }))

  -- a log, a metric or the last flush may come
  comes_some : {X : Type 0} {world : World P C} (kind : Came) (o : Option X) {go : X → Sending P C}
      → ((x : X) → o ≡ Some x → Sends meanings None world (came_to_queues kind ∷ []) (go x))
      → Sends meanings None world (came_to_queues kind ∷ []) (send_some world o go)
  comes_some {world = world} kind None h = record { changes = one (accepts_none world kind) }
  comes_some kind (Some x) h = h x refl

  comes_unless : {world : World P C} (kind : Came) (b : Bool) {go : Sending P C}
      → (b ≡ false → Sends meanings None world (came_to_queues kind ∷ []) go)
      → Sends meanings None world (came_to_queues kind ∷ []) (if b then send_nothing world else go)
  comes_unless {world} kind true h = record { changes = one (accepts_none world kind) }
  comes_unless kind false h = h refl

  accepts_log : (key : ClientKey) (log : Log) (world : World P C) → Sends meanings None world (came_to_queues a_log ∷ [])
      (accept_log key log world)
  unfolding accept_log
  accepts_log key log world =
      comes_some a_log (client_at world key) (λ client found. comes_unless a_log client.closed
      (λ open_. record { changes = one (accepts world key client (log_came log) a_log refl found open_ refl) }))

  accepts_metric : (key : ClientKey) (metric : Metric) (world : World P C) → Sends meanings None world
      (came_to_queues a_metric ∷ []) (accept_metric key metric world)
  unfolding accept_metric
  accepts_metric key metric world =
      comes_some a_metric (client_at world key) (λ client found. comes_unless a_metric client.closed
      (λ open_. record { changes = one (accepts world key client (metric_came metric) a_metric refl found open_ refl) }))

  pub closes_queues : (key : ClientKey) (world : World P C) → Sends meanings None world (came_to_queues a_close ∷ [])
      (flush_queues Closing key world)
  unfolding flush_queues
  closes_queues key world =
      comes_some a_close (client_at world key) (λ client found. comes_unless a_close client.closed
      (λ open_. record { changes = one (accepts world key client (flush_came Closing) a_close refl found open_ refl) }))

  pub keeps_log : (key : ClientKey) (client : ClientHistory C) (log : Option Log) (world : World P C)
      → client_at world key ≡ Some client
      → Sends meanings None world (came_to_queues a_log ∷ []) (keep_log key client.label log world)
  unfolding keep_log
  keeps_log key client None world found =
      record { changes = both (one (accepts_none world a_log)) (one (loses world key client _ found)) }
  keeps_log key client (Some log) world found = accepts_log key log world

  pub keeps_metric : (key : ClientKey) (client : ClientHistory C) (metric : Option Metric) (world : World P C)
      → client_at world key ≡ Some client
      → Sends meanings None world (came_to_queues a_metric ∷ []) (keep_metric key client.label metric world)
  unfolding keep_metric
  keeps_metric key client None world found =
      record { changes = both (one (accepts_none world a_metric)) (one (loses world key client _ found)) }
  keeps_metric key client (Some metric) world found = accepts_metric key metric world

  -- ---- sessions

  pub ends : (key : SessionKey) (status : Option SessionStatus) (now : ℕ) (world : World P C)
      → Sends meanings None world [] (end_session key status now world)
  unfolding end_session
  ends key status now world =
      sends_some meanings None (session_at world key) (λ session found.
      let here = found_under world.tag world.sessions key.tag key.number session found in
      let closed_ : SessionHistory = record session { history = closed status now ∷ session.history } in
      let sessions = replace_at world.sessions key.number closed_ in
      let pending = pending_update (session_of session.start (closed status now ∷ session.history)) in
      let sending = send_some world pending (λ update. queue_update session.start.client update world) in
      let same : without sessions key.number ≡ without sending.after.sessions key.number =
      without_replaced world.sessions key.number closed_
      ∙ sym (ap (λ s. without s key.number)
      (some_sessions world pending _ (λ update. queue_update_sessions session.start.client update world))) in
      record {
        changes = subst (λ s. Changes meanings None world [] sending.sent (record sending.after { sessions = s })) same
            (quiet_last meanings None
            (both (one (changes_session world key.number session closed_ (closed status now ∷ []) here refl))
            (queued_beside session.start.client world sessions pending
            (λ update is. closed_told world key status now session here update is)))
            (ends_session (record sending.after { sessions = sessions }) key.number));
      })
    where
      closed_told : (world : World P C) (key : SessionKey) (status : Option SessionStatus) (now : ℕ)
          (session : SessionHistory) → value_at world.sessions key.number ≡ Some session → (update : SessionUpdate)
          → pending_update (session_of session.start (closed status now ∷ session.history)) ≡ Some update
          → IsArrival (record world {
            sessions = replace_at world.sessions key.number
                (record session { history = closed status now ∷ session.history });
          }) (session_ended update)
      closed_told world key status now session here update is =
          let closed_ : SessionHistory = record session { history = closed status now ∷ session.history } in
          let told_ = pending_told session.start (closed status now ∷ session.history) update is in (
            (key.number, closed_, own_replaced world.sessions key.number closed_ session here, told_.0, told_.1),
            subst (λ s. s ≢ session_status.Ok) told_.1 (closed_ended (end_of session.history) status now),
          )

  ends_unnamed : (name : Option SessionKey) (now : ℕ) (world : World P C) → Sends meanings None world []
      (end_unnamed_session name now world)
  unfolding end_unnamed_session
  ends_unnamed name now world =
      sends_some meanings None name (λ key is. sends_unless meanings None (is_session_named key world.hubs)
      (λ unnamed. ends key None now world))

  pub releases : (number : ℕ) (hub : HubState P) (now : ℕ) (world : World P C) → value_at world.hubs number ≡ Some hub
      → Sends meanings None world (session_named number None ∷ []) (release_session number hub now world)
  releases number hub now world found = record {
    changes = both (one (sets_session world number hub None found tt))
        (ends_unnamed hub.stack.top.session now
        (record world { hubs = replace_at world.hubs number (with_session hub None) })).changes;
  }

  pub replaces : (number : ℕ) (hub : HubState P) (now : ℕ) (start : SessionStart) (world : World P C)
      → value_at world.hubs number ≡ Some hub
      → Sends meanings None world (session_begun number start.session_id ∷ session_named number None
      ∷ session_named number (Some (record {
        tag = world.tag;
        number =
            (release_session number hub now (with_new_session start world)).after.next.session;
      })) ∷ [])
      (replace_session number hub now start world)
  replaces number hub now start world found =
      let counted = record world.next { session = world.next.session + 1 } in
      let begun = with_new_session start world in
      let released = release_session number hub now begun in
      let but = release_but counted number hub now begun in
      let same : released.after.next ≡ world.next = release_next number hub now begun in
      let tag : released.after.tag ≡ world.tag = release_tag number hub now begun in
      let freed : Changes meanings None (record begun { next = counted }) (session_named number None ∷ [])
      released.sent (record released.after { next = counted }) =
      subst (λ s. Changes meanings None (record begun { next = counted }) (session_named number None ∷ [])
      s (record released.after { next = counted })) but.sent
      (subst (λ (w : World P C). Changes meanings None (record begun { next = counted })
      (session_named number None ∷ [])
      (release_session number hub now (record begun { next = counted })).sent w) but.after
      (releases number hub now (record begun { next = counted }) found).changes) in
      record {
        changes = subst (λ (n : NextNumbers). Changes meanings None world
            (session_begun number start.session_id ∷ session_named number None ∷ session_named number
            (Some (record { tag = world.tag; number = n.session })) ∷ []) released.sent
            (record released.after {
              next = record n { session = n.session + 1 };
              hubs =
                  replace_at released.after.hubs number
                  (with_session hub (Some (record { tag = released.after.tag; number = n.session })));
            })) (sym same)
            (subst (λ t. Changes meanings None world
            (session_begun number start.session_id ∷ session_named number None ∷ session_named number
            (Some (record { tag = world.tag; number = world.next.session })) ∷ []) released.sent
            (record released.after {
              next = counted;
              hubs =
                  replace_at released.after.hubs number
                  (with_session hub (Some (record { tag = t; number = world.next.session })));
            })) (sym tag)
            (quiet_last meanings None (both (one (starts_session world number start)) freed)
            (sets_session (record released.after { next = counted }) number (with_session hub None)
            (Some (record { tag = world.tag; number = world.next.session })) (found_released number hub now begun found)
            (sym tag, omega arith))));
      }
