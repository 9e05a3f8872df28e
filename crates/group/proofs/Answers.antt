-- What grouping answers: the table's refusal, or the entries made. Assumes nothing.
use Prim.Native.Nat.{ℕ}
use mathlib.Core.Path.{◌≡◌, refl, sym}
use mathlib.Core.Bool.{Bool, true, false, cond}
use lib.Dec.{eqb}
use lib.ListN.{length}
use borrow.Author.Tests.{eqb-true}
use Rattle.std.specs.Prelude.{Result, Ok, Err}
use Rattle.answer.specs.Refusals.{Answered, nothing, answer_in}
use Rattle.answer.specs.Outcome.{outcome, decided}
use Rattle.group_refusal.specs.Refusal.{Pixels, EntryRoom, group_answer}
use Rattle.group_refusal.proofs.Names.{accepted-nothing}
use Rattle.group.specs.Entries.{entries, left}
use Rattle.group.specs.Group.{entries_of, grouping}

answered : (r : Answered) (b : Bool) (done m : EntryRoom) (k : ℕ) → eqb r.number 0 ≡ b → (r.number ≡ 0 → r ≡ nothing)
    → answer_in (cond b (outcome {A = Result ℕ Answered} (Ok k) done) (outcome (Err r) m)).answer ≡ r
answered r true done m k e h = sym (h (eqb-true r.number 0 e))
answered r false done m k e h = refl

-- the refusal answered is the table's, and nothing exactly when there is none
pub refusal_is : (size : ℕ) (q : Pixels) (m : EntryRoom) → answer_in (grouping size q m).answer ≡ group_answer size q m
unfolding grouping decided
refusal_is size q m =
    answered (group_answer size q m) (eqb (group_answer size q m).number 0) (left q q.p m) m _ refl (accepted-nothing size q m)

-- where there is none, the entries answered are those of the kept pixels
pub entries_are : (size : ℕ) (q : Pixels) (m : EntryRoom) → (group_answer size q m).number ≡ 0 → entries_of (grouping size q m).answer ≡ length (entries q q.p)
unfolding grouping decided
entries_are size q m e = rw e
