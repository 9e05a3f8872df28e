-- A run is told from a job of other sizes by the word that every call leaves: the four sizes can be read off it. Assumes nothing.
use Prim.Native.Nat.{ℕ, ◌+◌, ◌*◌, ◌^◌, ◌≤◌, ◌<◌}
use mathlib.Core.Path.{◌≡◌, refl, sym, ap, subst, ◌∙◌}
use mathlib.Core.Logic.{◌⊎◌, inl, inr, ◌≢◌}
use mathlib.Core.Bool.{Bool, true, false, not, ◌&&◌, true≢false}
use mathlib.Core.List.{List, [], ◌∷◌, ◌++◌}
use native.Mathlib.Omega.{arith}
use lib.Dec.{eqb}
use lib.ListN.{get_or}
use lib.Ieee.{Float}
use borrow.Author.Tests.{eq-eqb, eqb-true, not-true}
use Rattle.answer.specs.Refusals.{Answered, refusal}
use Rattle.answer.specs.Rules.{Rule, rule, answer, numbered}
use Rattle.answer.proofs.Passing.{goes, skips, fails}
use Rattle.answer.proofs.Places.{numbers, number_passes}
use Rattle.job.specs.Gives.{Sampled}
use Rattle.quantizer.specs.Course.{Course}
use Rattle.run_stages.specs.Record.{packed, sizes_word, state_rules}
use Rattle.run_stages.specs.Calls.{Memory, state_of, job_rules, memory_room, colours_room, start_answer, advance_answer, hand_in_answer, result_answer}
use Rattle.run_stages.specs.History.{Run}
use Rattle.run_calls.specs.Accepted.{Accepted}
use Rattle.run_calls.proofs.Cases.{decide}
use Rattle.run_calls.proofs.Accepted.{room_of, job-passed}
use Rattle.run_calls.proofs.Answers.{start_opened}
use Rattle.run_calls.proofs.Follow.{run-accepted}
use Rattle.demands.specs.Neighbour.{SameSizes, ToldApart, Resumed, Neighbour}

-- ---- a number that no rule has is not answered
abbrev other_than : ℕ → ℕ → Bool
other_than k n = not (eqb n k)

never_answered : (k : ℕ) → other_than k 0 ≡ true → (rs : List Rule) → numbers (other_than k) rs ≡ true → (answer rs).number ≢ k
never_answered k z rs h e = true≢false (sym (eq-eqb (answer rs).number k e) ∙ not-true (eqb (answer rs).number k) (number_passes (other_than k) z rs h))

-- ---- the sizes are read off their word
module _ (s c t n s2 c2 t2 n2 : ℕ) (c16 : c < 65536) (t16 : t < 65536) (n16 : n < 65536) (d16 : c2 < 65536) (u16 : t2 < 65536) (m16 : n2 < 65536)
    (e : packed s c t n ≡ packed s2 c2 t2 n2) where
  unpacked : (s ≡ s2) × (c ≡ c2) × (t ≡ t2) × (n ≡ n2)
  unfolding packed
  unpacked = (omega (arith, e), omega (arith, e), omega (arith, e), omega (arith, e))

and_true : (a b : Bool) → b ≡ true → (a && b) ≡ a
and_true true b h = h
and_true false b h = refl

module _ (K L : Course) (g h : Bool) (D : Sampled K.job K.n K.samples g) (E : Sampled L.job L.n L.samples h) where
  read_off : sizes_word K ≡ sizes_word L → SameSizes K L
  read_off e =
      let k = D.ready.sizes in let l = E.ready.sizes in
      let same = unpacked K.job.S K.job.C K.job.T K.n L.job.S L.job.C L.job.T L.n
      (omega (arith, k.cap)) (omega (arith, k.tiles)) (omega (arith, D.few)) (omega (arith, l.cap)) (omega (arith, l.tiles)) (omega (arith, E.few)) e in
      record { subpalettes = same.0; colours = same.1; tiles = same.2; samples = same.3 }

  same_word : SameSizes K L → sizes_word K ≡ sizes_word L
  same_word e = rw (e.subpalettes, e.colours, e.tiles, e.samples)

  -- the rule by itself, before rules with other numbers
  told : (w : ℕ) → w ≡ sizes_word K → (rest : List Rule) → numbers (other_than 20) rest ≡ true → ToldApart K L (answer (rule 20 (eqb w (sizes_word L)) ∷ rest))
  told w q rest none =
      record {
        other = λ n. elim (decide (eqb w (sizes_word L))) [
          | inl t ↦ absurd (n (read_off (sym q ∙ eqb-true w (sizes_word L) t)))
          | inr f ↦ sym (fails (rule 20 (eqb w (sizes_word L))) rest f)
        ];
        equal = λ same given. never_answered 20 refl rest none
            (ap (λ (e : Answered). e.number) (skips (rule 20 (eqb w (sizes_word L))) (answer rest) rest (eq-eqb w (sizes_word L) (q ∙ same_word same)) refl) ∙ given);
      }

-- ---- behind the job's rules, which pass
module _ (K L : Course) (seed : ℕ) {m : Memory} {ds : List ℕ} (run : Run K seed m ds) (x : Memory) (kept : x.words ≡ m.words) (fine : (start_answer L x).number ≡ 0) where
  word_of : get_or x.words 6 0 ≡ sizes_word K
  unfolding state_of
  word_of = ap (λ (ws : List ℕ). get_or ws 6 0) kept ∙ (run-accepted K seed run).fit.sizes

  behind : (room : Bool) → room ≡ memory_room L x → (rest : List Rule) → numbers (other_than 20) rest ≡ true
      → ToldApart K L (answer (job_rules L room ++ (rule 20 (eqb (get_or x.words 6 0) (sizes_word L)) ∷ rest)))
  unfolding start_answer numbered
  behind room e rest none =
      let own = job-passed K true (run-accepted K seed run).passed in
      let its = job-passed L true (start_opened L x fine).0 in
      let rules = job_rules L room in
      let all = rule 20 (eqb (get_or x.words 6 0) (sizes_word L)) ∷ rest in
      let pass : (answer rules).number ≡ 0 = subst (λ (b : Bool). (answer (job_rules L b)).number ≡ 0) (sym e) fine in
      subst (ToldApart K L) (goes rules all (answer rules) (answer all) refl refl pass refl)
      (told K L true true own its (get_or x.words 6 0) word_of rest none)

  by_any_call : Resumed K L x
  unfolding advance_answer hand_in_answer result_answer state_of
  by_any_call =
      record {
        advance = behind (memory_room L x) refl _ refl;
        hand_in = λ reduced e. behind (memory_room L x && colours_room L reduced) (and_true (memory_room L x) (colours_room L reduced) e) _ refl;
        result = λ out e. behind (memory_room L x && colours_room L out) (and_true (memory_room L x) (colours_room L out) e) _ refl;
      }

pub neighbour_told : Neighbour
unfolding state_of
neighbour_told = record { word = λ K seed run. (run-accepted K seed run).fit.sizes; resumed = by_any_call }
