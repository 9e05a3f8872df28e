-- What a draw asks and leaves, from what the functions that it calls ensure. Assumes nothing.
use Prim.Native.Nat.{ℕ}
use mathlib.Core.Path.{◌≡◌, ap}
use mathlib.Core.List.{List, []}
use lib.Ieee.{Float}
use Rattle.prng.specs.Shuffle.{deck}
use Rattle.cycle.specs.Cycle.{Cycle, cycle, draw_one}
use Rattle.quantizer.specs.Course.{Course}
use Rattle.quantizer_nudge.specs.Nudges.{moved_by, hints_by}
use Rattle.quantizer_draw.specs.Draws.{Going}
use Rattle.run_stages.specs.declared.Record.{Record}
use Rattle.run_stages.specs.State.{state_with, counted}
use Rattle.run_stages.specs.Stages.{cycle_of, subs_of, have_of, alpha_of, draw, draw_with}

-- g and m are the record's generator and draws made
module _ (K : Course) (o h : List ℕ) (p : List Float) (r : Record) (subs have : ℕ)
    (es : subs ≡ subs_of K.job.S r) (eh : have ≡ have_of K.job.C r)
    (g m : ℕ) (e : cycle (deck [] g) m ≡ cycle_of [] r) where
  pub going_by : Going K (cycle_of o r) p (subs_of K.job.S r) (have_of K.job.C r) h → Going K (cycle (deck o g) m) p subs have h
  unfolding subs_of have_of
  going_by G = rw (es, eh, ap (λ (c : Cycle). c.cards.state) e, ap (λ (c : Cycle). c.made) e) G

  pub drawn_by : (alpha : Float) → alpha ≡ alpha_of r → (o2 h2 : List ℕ) (p2 : List Float) (g2 m2 : ℕ)
      → cycle (deck o2 g2) m2 ≡ (draw_one (cycle (deck o g) m)).next
      → p2 ≡ moved_by K p subs have (draw_one (cycle (deck o g) m)).sample alpha
      → h2 ≡ hints_by K p subs have (draw_one (cycle (deck o g) m)).sample h
      → (r2 : Record) → r2 ≡ counted r g2 m2 → state_with o2 h2 p2 [] r2 ≡ draw K (state_with o h p [] r)
  unfolding draw draw_with subs_of have_of alpha_of draw_one
  drawn_by alpha ea o2 h2 p2 g2 m2 ec ep eq r2 er =
      let eo = ap (λ (c : Cycle). c.cards.order) ec in
      let eg2 = ap (λ (c : Cycle). c.cards.state) ec in
      let em2 = ap (λ (c : Cycle). c.made) ec in
      let eg = ap (λ (c : Cycle). c.cards.state) e in
      let em = ap (λ (c : Cycle). c.made) e in
      rw (er, eo, eg2, em2, eq, ep, eg, em, es, eh, ea)
