-- What the checks answer that ask others: the first list of rules with a number decides. Assumes nothing.
use Prim.Native.Nat.{ℕ, zero, suc, ◌*◌, ◌≤◌, ◌<◌}
use mathlib.Core.Path.{◌≡◌, refl, subst}
use mathlib.Core.Bool.{Bool, true, false, not}
use mathlib.Core.List.{List, ◌∷◌, ◌++◌}
use native.Mathlib.Omega.{arith}
use lib.Dec.{leb}
use lib.Ieee.{Float}
use lib.ListN.{length}
use borrow.Author.Tests.{eqb-true, eq-eqb, ne_eqb, le-leb, lt-leb}
use Rattle.answer.specs.Refusals.{Answered, refusal, nothing}
use Rattle.answer.specs.Rules.{Rule, rule, answer, numbered}
use Rattle.job.specs.Job.{Job, most_subpalettes, most_colours, most_samples}
use Rattle.job.specs.Checks.{size_rules, shape_rules, form_rules, sampled_form_rules, bound_rules, place_rules, tables, plain_answer, sampled_answer}
use Rattle.answer.proofs.Passing.{stops, goes, both_pass, skips, fails, refuses, passes, none, all_pass}
use Rattle.job.proofs.Forms.{past-sizes, past_shapes}
use Rattle.job.proofs.Ready.{sizes_of_lem}

no_samples : (n : ℕ) → n ≡ 0 → leb 1 n ≡ false
no_samples n e = lt-leb 1 n (omega arith)

some-samples : (n : ℕ) → (n ≡ 0 → ⊥) → leb 1 n ≡ true
some-samples zero h = absurd (h refl)
some-samples (suc n) h = le-leb 1 (suc n) (omega arith)

module _ (J : Job) (room : Bool) where
  -- ---- the form of a call: sizes, shapes, and what is its own
  abbrev sizes : List Rule
  sizes = size_rules J.size J.S J.C J.T

  abbrev shapes : List Rule
  shapes = shape_rules J.T J.tiles J.colours J.counts

  abbrev form : ℕ → List Rule
  form palette = form_rules J.size J.S J.C J.T J.tiles J.colours J.counts palette room

  pub form_sizes : (palette : ℕ) (a : Answered) → a ≡ answer sizes → (a.number ≡ 0 → ⊥) → a ≡ answer (form palette)
  unfolding numbered
  form_sizes palette a e h = stops sizes _ a refl e h

  module _ (a : Answered) (e : a ≡ answer sizes) (z : a.number ≡ 0) where
    pub form_shapes : (palette : ℕ) (b : Answered) → b ≡ answer shapes → (b.number ≡ 0 → ⊥) → b ≡ answer (form palette)
    unfolding numbered
    form_shapes palette b f h = past-sizes J.size J.S J.C J.T a e z b _ (stops shapes _ b refl f h)

    module _ (b : Answered) (f : b ≡ answer shapes) (y : b.number ≡ 0) where
      past-both : (k : Answered) (rs : List Rule) → k ≡ answer rs → k ≡ answer (sizes ++ (shapes ++ rs))
      past-both k rs h = past-sizes J.size J.S J.C J.T a e z k _ (past_shapes J.T J.tiles J.colours J.counts b f y k rs h)

      module _ (palette : ℕ) where
        pub form_palette : (palette ≡ 3 * (J.S * J.C) → ⊥) → refusal 3 0 ≡ answer (form palette)
        form_palette h = past-both (refusal 3 0) _ (fails _ _ (ne_eqb _ _ h))

        module _ (l : palette ≡ 3 * (J.S * J.C)) where
          pub form_room : not room ≡ true → refusal 3 0 ≡ answer (form palette)
          form_room h = past-both (refusal 3 0) _ (skips _ _ _ (eq-eqb _ _ l) (refuses _ room _ refl h))

          pub form_passes : not room ≡ false → nothing ≡ answer (form palette)
          form_passes h = past-both nothing _ (skips _ _ _ (eq-eqb _ _ l) (passes _ _ _ _ refl h none))

  -- what a form that passed says of the sizes and the slices
  pub form_cells : (a : Answered) → a.number ≡ 0 → (palette : ℕ) → a ≡ answer (form palette) → J.S * J.C ≤ most_subpalettes * most_colours
  unfolding numbered
  form_cells a z palette e = (sizes_of_lem _ _ _ _ (answer sizes) refl (both_pass sizes _ refl (subst (λ (x : Answered). x.number ≡ 0) e z)).0).cells

  pub form_table : (a : Answered) → a.number ≡ 0 → (palette : ℕ) → a ≡ answer (form palette) → length J.tiles ≡ 2 * J.T
  unfolding numbered
  form_table a z palette e = eqb-true (length J.tiles) (2 * J.T) (all_pass (form palette) refl (subst (λ (x : Answered). x.number ≡ 0) e z)).1.1.1.1.0

  -- ---- a call: its form, its tables, its numbers
  module _ (palette : List Float) (a : Answered) (e : a ≡ answer (form (length palette))) where
    pub plain_form : (a.number ≡ 0 → ⊥) → a ≡ plain_answer J palette room
    unfolding plain_answer numbered
    plain_form h = stops (form (length palette)) _ a refl e h

    module _ (z : a.number ≡ 0) (b : Answered) (f : b ≡ answer (tables J)) where
      pub plain-tables : (b.number ≡ 0 → ⊥) → b ≡ plain_answer J palette room
      unfolding plain_answer numbered
      plain-tables h = goes (form (length palette)) _ a b refl e z (stops (tables J) _ b refl f h)

      pub plain_bounds : b.number ≡ 0 → (d : Answered) → d ≡ answer (bound_rules (J.S * J.C) palette J.colours) → d ≡ plain_answer J palette room
      unfolding plain_answer numbered
      plain_bounds y d g = goes (form (length palette)) _ a d refl e z (goes (tables J) _ b d refl f y g)

  -- ---- with n samples: the form of a call
  module _ (n : ℕ) where
    abbrev sampled_form : ℕ → List Rule
    sampled_form samples = sampled_form_rules J.size J.S J.C J.T n J.tiles J.colours J.counts samples room

    pub sampled-sizes : (samples : ℕ) (a : Answered) → a ≡ answer sizes → (a.number ≡ 0 → ⊥) → a ≡ answer (sampled_form samples)
    unfolding numbered
    sampled-sizes samples a e h = stops sizes _ a refl e h

    module _ (samples : ℕ) (a : Answered) (e : a ≡ answer sizes) (z : a.number ≡ 0) where
      pub sampled-many : most_samples < n → refusal 2 0 ≡ answer (sampled_form samples)
      sampled-many h = past-sizes J.size J.S J.C J.T a e z (refusal 2 0) _ (fails _ _ (lt-leb _ _ h))

      module _ (w : n ≤ most_samples) (b : Answered) (f : b ≡ answer shapes) where
        pub sampled_shapes : (b.number ≡ 0 → ⊥) → b ≡ answer (sampled_form samples)
        unfolding numbered
        sampled_shapes h = past-sizes J.size J.S J.C J.T a e z b _ (skips _ _ _ (le-leb _ _ w) (stops shapes _ b refl f h))

        module _ (y : b.number ≡ 0) where
          past-many : (k : Answered) (rs : List Rule) → k ≡ answer rs → k ≡ answer (sizes ++ (rule 2 (leb n most_samples) ∷ (shapes ++ rs)))
          past-many k rs h =
              past-sizes J.size J.S J.C J.T a e z k _
              (skips _ _ _ (le-leb _ _ w) (past_shapes J.T J.tiles J.colours J.counts b f y k rs h))

          pub sampled_unpaired : (samples ≡ 2 * n → ⊥) → refusal 3 0 ≡ answer (sampled_form samples)
          sampled_unpaired h = past-many (refusal 3 0) _ (fails _ _ (ne_eqb _ _ h))

          module _ (l : samples ≡ 2 * n) where
            pub sampled-room : not room ≡ true → refusal 3 0 ≡ answer (sampled_form samples)
            sampled-room h = past-many (refusal 3 0) _ (skips _ _ _ (eq-eqb _ _ l) (refuses _ room _ refl h))

            module _ (m : not room ≡ false) where
              pub sampled-none : n ≡ 0 → refusal 1 0 ≡ answer (sampled_form samples)
              sampled-none h = past-many (refusal 1 0) _ (skips _ _ _ (eq-eqb _ _ l) (passes _ _ _ _ refl m (fails _ _ (no_samples n h))))

              pub sampled_passes : (n ≡ 0 → ⊥) → nothing ≡ answer (sampled_form samples)
              sampled_passes h = past-many nothing _ (skips _ _ _ (eq-eqb _ _ l) (passes _ _ _ _ refl m (skips _ _ _ (some-samples n h) none)))

    -- what a form that passed says of the slices
    module _ (a : Answered) (z : a.number ≡ 0) (samples : ℕ) (e : a ≡ answer (sampled_form samples)) where
      pub sampled-table : length J.tiles ≡ 2 * J.T
      unfolding numbered
      sampled-table = eqb-true (length J.tiles) (2 * J.T) (all_pass (sampled_form samples) refl (subst (λ (x : Answered). x.number ≡ 0) e z)).1.1.1.1.1.0

      pub sampled-pairs : samples ≡ 2 * n
      unfolding numbered
      sampled-pairs = eqb-true samples (2 * n) (all_pass (sampled_form samples) refl (subst (λ (x : Answered). x.number ≡ 0) e z)).1.1.1.1.1.1.1.0

    -- ---- and a call
    module _ (samples : List ℕ) (a : Answered) (e : a ≡ answer (sampled_form (length samples))) where
      pub sampled_form_lem : (a.number ≡ 0 → ⊥) → a ≡ sampled_answer J n samples room
      unfolding sampled_answer numbered
      sampled_form_lem h = stops (sampled_form (length samples)) _ a refl e h

      module _ (z : a.number ≡ 0) (b : Answered) (f : b ≡ answer (tables J)) where
        pub sampled-tables : (b.number ≡ 0 → ⊥) → b ≡ sampled_answer J n samples room
        unfolding sampled_answer numbered
        sampled-tables h = goes (sampled_form (length samples)) _ a b refl e z (stops (tables J) _ b refl f h)

        pub sampled-places : b.number ≡ 0 → (d : Answered) → d ≡ answer (place_rules J.T J.tiles J.colours n samples) → d ≡ sampled_answer J n samples room
        unfolding sampled_answer numbered
        sampled-places y d g = goes (sampled_form (length samples)) _ a d refl e z (goes (tables J) _ b d refl f y g)
