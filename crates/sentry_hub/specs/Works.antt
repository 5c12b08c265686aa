-- That an answer is that of work which ran.
use Rattle.std.specs.Fn.{Once}
use denote.Ref.{Bor, MutBor}

-- the work, lent a thread, gave this answer
pub record Answers {F T A : Type 0} (g : Once F (MutBor T × Unit {0}) (A × (MutBor T × Unit {0}))) (work : F) (answer : A) : Type 0 where
  pub lent : MutBor T
  pub left : MutBor T
  pub met : g.post work (lent, tt) (answer, (left, tt))

-- the work, lent a thread and what it is under, gave this answer
pub record AnswersUnder {F T S A : Type 0} (g : Once F (MutBor T × (Bor S × Unit {0})) (A × (MutBor T × Unit {0}))) (work : F) (answer : A) : Type 0 where
  pub lent : MutBor T
  pub span : Bor S
  pub left : MutBor T
  pub met : g.post work (lent, (span, tt)) (answer, (left, tt))
