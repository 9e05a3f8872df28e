-- What each call's checks come to: a job that passed, memory of the right lengths that is fit, and the right moment. Assumes nothing.
use mathlib.Core.Path.{◌≡◌, refl, subst}
use mathlib.Core.Bool.{Bool, true, false}
use mathlib.Core.Logic.{◌⊎◌, inl, inr}
use Prim.Native.Nat.{◌*◌, ◌≤◌}
use lib.ListN.{length, get_or}
use lib.Dec.{eqb}
use borrow.Author.Tests.{eq-eqb, ne_eqb, eqb-true, eqb-false, lt-ltb, ltb-true}
use Rattle.lists.proofs.Tests.{and_l, and_r}
use Rattle.answer.specs.Rules.{Passed}
use Rattle.answer.proofs.Passing.{passed-number}
use Rattle.job.specs.Checks.{components_fit, sampled_answer}
use Rattle.job.specs.Gives.{Sampled}
use Rattle.job.proofs.Ready.{sampled-ready}
use Rattle.job.proofs.Bad.{none-bad}
use Rattle.quantizer.specs.Course.{Course}
use Rattle.run_stages.specs.State.{State}
use Rattle.run_stages.specs.Record.{four, error_fits, looked_at, state_rules}
use Rattle.run_stages.specs.Calls.{Memory, record_words, state_of, memory_of, colours_room, memory_room, job_rules}
use Rattle.run_calls.proofs.Cases.{decide}
use Rattle.run_calls.proofs.Words.{rests→words, words→rests}
use Rattle.run_calls.proofs.Limits.{fits-four, four-bounded, entries_fit, entries_below}
use Rattle.run_calls.specs.Sound.{Second, in2, out2}
use Rattle.run_calls.specs.Fit.{Fit}
use Rattle.run_calls.specs.Accepted.{Accepted, Roomy}

module _ (K : Course) where
  pub roomy_of : (m : Memory) → memory_room K m ≡ true → Roomy K m
  unfolding memory_room colours_room
  roomy_of m h =
      let a = and_r (eqb (length m.order) K.n) _ h in
      let c = and_r (eqb (length m.hints) K.job.T) _ a in
      let d = and_r (eqb (length m.palette) (3 * (K.job.S * K.job.C))) _ c in
      record {
        order = eqb-true _ _ (and_l (eqb (length m.order) K.n) _ h);
        hints = eqb-true _ _ (and_l (eqb (length m.hints) K.job.T) _ a);
        palette = eqb-true _ _ (and_l (eqb (length m.palette) (3 * (K.job.S * K.job.C))) _ c);
        least = eqb-true _ _ (and_l (eqb (length m.least) (3 * (K.job.S * K.job.C))) (eqb (length m.words) record_words) d);
        words = eqb-true _ _ (and_r (eqb (length m.least) (3 * (K.job.S * K.job.C))) (eqb (length m.words) record_words) d);
      }

  pub room_of : (m : Memory) → Roomy K m → memory_room K m ≡ true
  unfolding memory_room colours_room
  room_of m r =
      rw (
        eq-eqb (length m.order) K.n r.order,
        eq-eqb (length m.hints) K.job.T r.hints,
        eq-eqb (length m.palette)
            (3 * (K.job.S * K.job.C)) r.palette,
        eq-eqb (length m.least) (3 * (K.job.S * K.job.C)) r.least,
        eq-eqb (length m.words) record_words r.words,
      )

-- ---- the state's own rules, as tests and as what the laws speak of
module _ (K : Course) (S1 : 1 ≤ K.job.S) (C1 : 1 ≤ K.job.C) where
  pub fit→rules : (s : State) → Fit K s → Passed (state_rules K s)
  fit→rules s F =
      let A = F.sound in
      let w = rests→words K S1 C1 s F.rests in
      let x = lastly A.second in
      (eq-eqb _ _ F.sizes, (w.place, (eq-eqb _ _ w.made, (x.0, (fits-four s.palette A.held.bound, (x.1, (entries_fit K.n s.order A.dealt.below, tt)))))))
    where
      lastly : Second K s.rec.stage s.rec.error s.least → (error_fits s.rec.stage s.rec.error ≡ true) × (components_fit four (looked_at s.rec.stage s.least) ≡ true)
      lastly (in2 k e f) = unfold error_fits looked_at in rw (eq-eqb s.rec.stage 2 k) (lt-ltb s.rec.error 0x7f800000 e, fits-four s.least f)
      lastly (out2 k e) = unfold error_fits looked_at in rw (ne_eqb s.rec.stage 2 k) (eq-eqb s.rec.error 0 e, none-bad four)

  pub rules→fit : (m : Memory) → Roomy K m → Passed (state_rules K (state_of m)) → Fit K (state_of m)
  unfolding state_of
  rules→fit m r (p0, (p1, (p2, (p3, (p4, (p5, (p6, u))))))) =
      let s = state_of m in
      record {
        sizes = eqb-true _ _ p0;
        rests = words→rests K S1 C1 s (record { place = p1; made = eqb-true _ _ p2 });
        sound = record {
          held = record { size = r.palette; bound = four-bounded m.palette p4 };
          room = r.least;
          second = lastly (decide (eqb s.rec.stage 2));
          hints = r.hints;
          dealt = record { size = r.order; below = entries_below K.n m.order p6 };
        };
      }
    where
      lastly : (eqb (get_or m.words 1 0) 2 ≡ true) ⊎ (eqb (get_or m.words 1 0) 2 ≡ false) → Second K (get_or m.words 1 0) (get_or m.words 5 0) m.least
      lastly (inl t) =
          unfold error_fits looked_at in
          in2 (eqb-true (get_or m.words 1 0) 2 t) (ltb-true (get_or m.words 5 0) 0x7f800000 (rw t at p3)) (four-bounded m.least (rw t at p5))
      lastly (inr t) = unfold error_fits in out2 (eqb-false (get_or m.words 1 0) 2 t) (eqb-true (get_or m.words 5 0) 0 (rw t at p3))

module _ (K : Course) where
  -- the job's rules say what a job with samples has to be
  pub job-passed : (room : Bool) → Passed (job_rules K room) → Sampled K.job K.n K.samples room
  job-passed room p = sampled-ready K.job K.n K.samples room (unfold sampled_answer in passed-number (job_rules K room) p)

  pub in-room : (room : Bool) → Passed (job_rules K room) → (room ≡ true) × Passed (job_rules K true)
  in-room room p = let e = (job-passed room p).roomy in (e, subst (λ (b : Bool). Passed (job_rules K b)) e p)

  -- the memory that holds a fit state
  pub holds : (s : State) → Passed (job_rules K true) → Fit K s → Accepted K (memory_of s)
  unfolding memory_of state_of
  holds s p F =
      let A = F.sound in
      record { passed = p; roomy = record { order = A.dealt.size; hints = A.hints; palette = A.held.size; least = A.room; words = refl }; fit = F }

  pub accepts : (m : Memory) → Passed (job_rules K true) → Roomy K m → Passed (state_rules K (state_of m)) → Accepted K m
  accepts m p r q =
      let D = job-passed true p in
      record { passed = p; roomy = r; fit = rules→fit K D.ready.sizes.subs D.ready.sizes.some m r q }

  pub accepted-rules : (m : Memory) → Accepted K m → Passed (state_rules K (state_of m))
  accepted-rules m A = let D = job-passed true A.passed in fit→rules K D.ready.sizes.subs D.ready.sizes.some (state_of m) A.fit
