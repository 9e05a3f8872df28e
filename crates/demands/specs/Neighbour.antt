-- A run belongs to the sizes of its job: a job of other sizes refuses it with 20, one of equal sizes never does. Assumes nothing.
use Rattle.std.specs.Prelude.{ℕ, ◌≡◌, true, List, get_or, Float}
use Rattle.answer.specs.Refusals.{Answered, refusal}
use Rattle.quantizer.specs.Course.{Course}
use Rattle.run_stages.specs.Record.{sizes_word}
use Rattle.run_stages.specs.Calls.{Memory, colours_room, start_answer, advance_answer, hand_in_answer, result_answer}
use Rattle.run_stages.specs.History.{Run}

-- the sizes that a record knows. Two jobs of equal sizes are not told apart
pub record SameSizes (K L : Course) : Type 0 where
  pub subpalettes : K.job.S ≡ L.job.S
  pub colours : K.job.C ≡ L.job.C
  pub tiles : K.job.T ≡ L.job.T
  pub samples : K.n ≡ L.n

-- 20 exactly when a size is another
pub record ToldApart (K L : Course) (e : Answered) : Type 0 where
  pub other : (SameSizes K L → ⊥) → e ≡ refusal 20 0
  pub equal : SameSizes K L → e.number ≡ 20 → ⊥

-- the calls of a run on L, in memory x
pub record Resumed (K L : Course) (x : Memory) : Type 0 where
  pub advance : ToldApart K L (advance_answer L x)
  pub hand_in : (reduced : List Float) → colours_room L reduced ≡ true → ToldApart K L (hand_in_answer L x reduced)
  pub result : (out : List Float) → colours_room L out ≡ true → ToldApart K L (result_answer L x out)

pub record Neighbour : Type 0 where
  -- the word of the sizes is the job's after every call of a run
  pub word : (K : Course) (seed : ℕ) {m : Memory} {ds : List ℕ} → Run K seed m ds → get_or m.words 6 0 ≡ sizes_word K
  -- with the record that a run of K left, and L a job that could be started in the memory lent
  pub resumed : (K L : Course) (seed : ℕ) {m : Memory} {ds : List ℕ} → Run K seed m ds → (x : Memory) → x.words ≡ m.words → (start_answer L x).number ≡ 0 → Resumed K L x
