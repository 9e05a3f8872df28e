-- A turn on flat lists is a pixel's turn on entries. Assumes nothing.
use Prim.Native.Nat.{ℕ, zero, suc, ◌+◌, ◌*◌, ◌<◌, ◌≤◌}
use mathlib.Core.Path.{◌≡◌, refl, sym, ◌∙◌, ap}
use mathlib.Core.Bool.{Bool, true, false, cond}
use mathlib.Core.List.{List, [], ◌∷◌, ◌++◌, append_assoc}
use native.Mathlib.Numerals.{add-one}
use native.Mathlib.Omega.{arith}
use lib.Dec.{ltb}
use lib.ListN.{length, drop, get_or, set, length-append}
use lib.Seq.{drop-cons, set_at}
use lib.Ieee.{Float}
use borrow.Author.Tests.{ltb-true, ltb-false, lt-ltb, le-ltb}
use Rattle.color.specs.declared.Oklab.{Oklab}
use Rattle.color.specs.Color.{colour_at, put_at}
use Rattle.group_pixels.specs.declared.Rgba.{Rgba}
use Rattle.group_pixels.specs.Pixel.{rgba_at, put_rgba, kept, same_bytes}
use Rattle.group_refusal.specs.Refusal.{Pixels, EntryRoom, entry_room}
use Rattle.group.specs.Entries.{Entry, total, seen_once, seen_again, join, place, entries, indexes, bytes_of, oklab_of, counts_of, over, left, fill_to}
use Rattle.group.proofs.Totals.{by_cases, join_more}
use Rattle.group.specs.Turn.{seek, Filled, filled, settled, turn}

-- ---- one more number after what is written

longer : {A : Type 0} (xs : List A) (v : A) → length (xs ++ (v ∷ [])) ≡ suc (length xs)
longer xs v = length-append xs (v ∷ []) ∙ add-one (length xs)

over_put : {A : Type 0} (xs l : List A) (v : A) (i : ℕ) → length xs ≡ i → i < length l → set (over xs l) i v ≡ over (xs ++ (v ∷ [])) l
over_put {A} xs l v i e h =
    let m : length xs < length l = omega arith in
    let tail : over (xs ++ (v ∷ [])) l ≡ xs ++ (v ∷ drop (suc (length xs)) l) =
    append_assoc xs (v ∷ []) (drop (length (xs ++ (v ∷ []))) l) ∙ ap (λ (n : ℕ). xs ++ (v ∷ drop n l)) (longer xs v)
    in
    ap (λ (t : List A). set (xs ++ t) i v) (drop-cons l (length xs) v m) ∙ set_at xs (get_or l (length xs) v) (drop (suc (length xs)) l) v i e ∙ sym tail

three : {A : Type 0} (xs : List A) (a b c : A) → ((xs ++ (a ∷ [])) ++ (b ∷ [])) ++ (c ∷ []) ≡ xs ++ (a ∷ b ∷ c ∷ [])
three xs a b c = simp append_assoc

four : {A : Type 0} (xs : List A) (a b c d : A) → (((xs ++ (a ∷ [])) ++ (b ∷ [])) ++ (c ∷ [])) ++ (d ∷ []) ≡ xs ++ (a ∷ b ∷ c ∷ d ∷ [])
four xs a b c d = simp append_assoc

put_rgba_lem : (xs l : List ℕ) (n : ℕ) (x : Rgba) → length xs ≡ 4 * n → 4 * n + 3 < length l
    → put_rgba (over xs l) n x ≡ over (xs ++ (x.r ∷ x.g ∷ x.b ∷ x.a ∷ [])) l
unfolding put_rgba
put_rgba_lem xs l n x e h =
    let x1 : List ℕ = xs ++ (x.r ∷ []) in
    let x2 : List ℕ = x1 ++ (x.g ∷ []) in
    let x3 : List ℕ = x2 ++ (x.b ∷ []) in
    let l1 : length x1 ≡ 4 * n + 1 = longer xs x.r ∙ omega arith in
    let l2 : length x2 ≡ 4 * n + 2 = longer x1 x.g ∙ omega arith in
    let l3 : length x3 ≡ 4 * n + 3 = longer x2 x.b ∙ omega arith in
    ap (λ (t : List ℕ). set (set (set t (4 * n + 1) x.g) (4 * n + 2) x.b) (4 * n + 3) x.a) (over_put xs l x.r (4 * n) e (omega arith))
    ∙ ap (λ (t : List ℕ). set (set t (4 * n + 2) x.b) (4 * n + 3) x.a) (over_put x1 l x.g (4 * n + 1) l1 (omega arith))
    ∙ ap (λ (t : List ℕ). set t (4 * n + 3) x.a) (over_put x2 l x.b (4 * n + 2) l2 (omega arith))
    ∙ over_put x3 l x.a (4 * n + 3) l3 h
    ∙ ap (λ (t : List ℕ). over t l) (four xs x.r x.g x.b x.a)

put_oklab : (xs l : List Float) (n : ℕ) (x : Oklab) → length xs ≡ 3 * n → 3 * n + 2 < length l
    → put_at (over xs l) n x ≡ over (xs ++ (x.l ∷ x.a ∷ x.b ∷ [])) l
unfolding put_at
put_oklab xs l n x e h =
    let x1 : List Float = xs ++ (x.l ∷ []) in
    let x2 : List Float = x1 ++ (x.a ∷ []) in
    let l1 : length x1 ≡ 3 * n + 1 = longer xs x.l ∙ omega arith in
    let l2 : length x2 ≡ 3 * n + 2 = longer x1 x.a ∙ omega arith in
    ap (λ (t : List Float). set (set t (3 * n + 1) x.a) (3 * n + 2) x.b) (over_put xs l x.l (3 * n) e (omega arith))
    ∙ ap (λ (t : List Float). set t (3 * n + 2) x.b) (over_put x1 l x.a (3 * n + 1) l1 (omega arith))
    ∙ over_put x2 l x.b (3 * n + 2) l2 h
    ∙ ap (λ (t : List Float). over t l) (three xs x.l x.a x.b)

-- ---- entries as flat lists

bytes-long : (es : List Entry) → length (bytes_of es) ≡ 4 * length es
unfolding bytes_of
bytes-long [] = refl
bytes-long (e ∷ es) = omega (arith, bytes-long es)

oklab-long : (es : List Entry) → length (oklab_of es) ≡ 3 * length es
unfolding oklab_of
oklab-long [] = refl
oklab-long (e ∷ es) = omega (arith, oklab-long es)

counts-long : (es : List Entry) → length (counts_of es) ≡ length es
unfolding counts_of
counts-long [] = refl
counts-long (e ∷ es) = ap suc (counts-long es)

bytes_after : (es : List Entry) (e : Entry) → bytes_of (es ++ (e ∷ [])) ≡ bytes_of es ++ bytes_of (e ∷ [])
unfolding bytes_of
bytes_after [] e = refl
bytes_after (d ∷ es) e = rw (bytes_after es e)

oklab-after : (es : List Entry) (e : Entry) → oklab_of (es ++ (e ∷ [])) ≡ oklab_of es ++ oklab_of (e ∷ [])
unfolding oklab_of
oklab-after [] e = refl
oklab-after (d ∷ es) e = rw (oklab-after es e)

counts-after : (es : List Entry) (e : Entry) → counts_of (es ++ (e ∷ [])) ≡ counts_of es ++ counts_of (e ∷ [])
unfolding counts_of
counts-after [] e = refl
counts-after (d ∷ es) e = rw (counts-after es e)

-- ---- a pixel's place

seek_is : (es : List Entry) (t : List ℕ) (x : Rgba) → seek (length es) (bytes_of es ++ t) x ≡ place es x
unfolding seek bytes_of place
seek_is [] t x = refl
seek_is (e ∷ es) t x = ap (λ (n : ℕ). cond (same_bytes e.colour x) 0 (suc n)) (seek_is es t x)

place-le : (es : List Entry) (x : Rgba) → place es x ≤ length es
unfolding place
place-le [] x = omega arith
place-le (e ∷ es) x =
    by_cases (λ b. cond b 0 (suc (place es x)) ≤ suc (length es)) (omega arith) (omega (arith, place-le es x)) (same_bytes e.colour x)

-- a pixel whose bytes are there changes one count
record Again (es : List Entry) (x : Rgba) (js : List Entry) (at : ℕ) : Type 0 where
  bytes : bytes_of js ≡ bytes_of es
  oklab : oklab_of js ≡ oklab_of es
  long : length js ≡ length es
  counts : (t : List ℕ) → set (counts_of es ++ t) at (get_or (counts_of es ++ t) at 0 + 1) ≡ counts_of js ++ t

again : (es : List Entry) (x : Rgba) (o : Oklab) → place es x < length es → Again es x (join es x o) (place es x)
unfolding place join bytes_of oklab_of counts_of
again [] x o h = absurd (omega arith)
again (e ∷ es) x o h =
    by_cases (λ b. cond b 0 (suc (place es x)) < suc (length es) → Again (e ∷ es) x (cond b (seen_again e ∷ es) (e ∷ join es x o)) (cond b 0 (suc (place es x))))
    (λ g. record { bytes = refl; oklab = refl; long = refl; counts = λ t. refl })
    (λ g. let r = again es x o (omega arith) in
    record { bytes = rw r.bytes; oklab = rw r.oklab; long = ap suc r.long; counts = λ t. ap (λ (l : List ℕ). e.count ∷ l) (r.counts t) })
    (same_bytes e.colour x) h

-- one whose bytes are not there comes last
anew : (es : List Entry) (x : Rgba) (o : Oklab) → place es x ≡ length es → join es x o ≡ es ++ (seen_once x o ∷ [])
unfolding place join
anew [] x o h = refl
anew (e ∷ es) x o h =
    by_cases (λ b. cond b 0 (suc (place es x)) ≡ suc (length es) → cond b (seen_again e ∷ es) (e ∷ join es x o) ≡ e ∷ (es ++ (seen_once x o ∷ [])))
    (λ g. absurd (omega arith))
    (λ g. let k : place es x ≡ length es = omega arith in ap (λ (l : List Entry). e ∷ l) (anew es x o k))
    (same_bytes e.colour x) h

-- ---- the turn

module _ (es : List Entry) (x : Rgba) (o : Oklab) (m : EntryRoom) (index : List ℕ) (k : ℕ) where
  abbrev held : Filled
  held = filled (length es) (entry_room (over (bytes_of es) m.bytes) (over (oklab_of es) m.oklab) (over (counts_of es) m.counts) index)

  abbrev next : List Entry → Filled
  next js = filled (length js) (entry_room (over (bytes_of js) m.bytes) (over (oklab_of js) m.oklab) (over (counts_of js) m.counts) (set index k (place es x)))

  joins : place es x < length es → settled k (place es x) x o held ≡ next (join es x o)
  joins h =
      let a = again es x o h in
      let c : length (counts_of (join es x o)) ≡ length (counts_of es) = counts-long (join es x o) ∙ a.long ∙ sym (counts-long es) in
      rw (lt-ltb (place es x) (length es) h, a.bytes, a.oklab, a.long, c, a.counts (drop (length (counts_of es)) m.counts))

  begins : place es x ≡ length es → 4 * length es + 3 < length m.bytes → 3 * length es + 2 < length m.oklab → length es < length m.counts
      → settled k (place es x) x o held ≡ next (join es x o)
  unfolding bytes_of oklab_of counts_of
  begins h hb ho hc =
      let n : length es ≤ place es x = omega arith in
      rw (
        le-ltb (place es x) (length es) n,
        anew es x o h,
        bytes_after es (seen_once x o),
        oklab-after es (seen_once x o),
        counts-after es (seen_once x o),
        longer es
            (seen_once x o),
        put_rgba_lem (bytes_of es) m.bytes (length es) x (bytes-long es) hb,
        put_oklab (oklab_of es) m.oklab (length es) o (oklab-long es) ho,
        over_put
            (counts_of es) m.counts 1 (length es) (counts-long es) hc,
        add-one (length es),
      )

  pub settles : 4 * length es + 3 < length m.bytes → 3 * length es + 2 < length m.oklab → length es < length m.counts
      → settled k (seek (length es) (over (bytes_of es) m.bytes) x) x o held ≡ next (join es x o)
  settles hb ho hc =
      rw (seek_is es (drop (length (bytes_of es)) m.bytes) x)
      (by (ltb (place es x) (length es)) refl)
    where
      by : (b : Bool) → ltb (place es x) (length es) ≡ b → settled k (place es x) x o held ≡ next (join es x o)
      by true e = joins (ltb-true (place es x) (length es) e)
      by false e = begins (omega (arith, ltb-false (place es x) (length es) e, place-le es x)) hb ho hc

-- ---- how many
pub few : (q : Pixels) (k : ℕ) → (total (entries q k) ≤ k) × (length (entries q k) ≤ k)
unfolding entries total
few q zero = (omega arith, omega arith)
few q (suc k) =
    let r = few q k in
    let j = join_more (entries q k) (rgba_at q.bytes k) (colour_at q.oklab k) in
    by_cases (λ b. (total (cond b (join (entries q k) (rgba_at q.bytes k) (colour_at q.oklab k)) (entries q k)) ≤ suc k) × (length (cond b (join (entries q k) (rgba_at q.bytes k) (colour_at q.oklab k)) (entries q k)) ≤ suc k))
    (omega arith, omega arith) (omega arith, omega arith) (kept q.zero (rgba_at q.bytes k))

pub count-few : (es : List Entry) (t : List ℕ) (e : ℕ) → e < length es → get_or (counts_of es ++ t) e 0 ≤ total es
unfolding counts_of total
count-few [] t e h = absurd (omega arith)
count-few (d ∷ es) t zero h = omega arith
count-few (d ∷ es) t (suc e) h = omega (arith, count-few es t e (omega arith))

-- ---- the pass

pub turn_fills : (q : Pixels) (k : ℕ) (m : EntryRoom) → 4 * k + 3 < length m.bytes → 3 * k + 2 < length m.oklab → k < length m.counts
    → turn q.bytes q.oklab q.zero k (fill_to q k m) ≡ fill_to q (k + 1) m
unfolding turn fill_to left entries indexes
turn_fills q k m hb ho hc =
    let f = few q k in
    let es = entries q k in
    let x = rgba_at q.bytes k in
    let o = colour_at q.oklab k in
    let index = indexes q k m.index in
    rw (add-one k)
    (by_cases
    (λ b. cond b (settled k (seek (length es) (over (bytes_of es) m.bytes) x) x o (held es x o m index k)) (held es x o m index k) ≡ filled
    (length (cond b (join es x o) es))
    (entry_room (over (bytes_of (cond b (join es x o) es)) m.bytes) (over (oklab_of (cond b (join es x o) es)) m.oklab)
    (over (counts_of (cond b (join es x o) es)) m.counts) (cond b (set index k (place es x)) index)))
    (settles es x o m index k (omega arith) (omega arith) (omega arith)) refl (kept q.zero x))

pub start : (q : Pixels) (m : EntryRoom) → filled 0 m ≡ fill_to q 0 m
unfolding fill_to left entries indexes bytes_of oklab_of counts_of
start q m = refl

pub held-few : (q : Pixels) (k : ℕ) (m : EntryRoom) (n : ℕ) (now : EntryRoom) → filled n now ≡ fill_to q k m → (n ≤ k) × ((e : ℕ) → e < n → get_or now.counts e 0 ≤ k)
unfolding fill_to left
held-few q k m n now e =
    let f = few q k in
    let long : n ≡ length (entries q k) = ap (λ (h : Filled). h.entries) e in
    let same : now.counts ≡ over (counts_of (entries q k)) m.counts = ap (λ (h : Filled). h.memory.counts) e in (
      omega arith,
      λ i h. rw same (omega (arith, count-few (entries q k) (drop (length (counts_of (entries q k))) m.counts) i (omega arith))),
    )

pub turn_on : (q : Pixels) (k : ℕ) (m : EntryRoom) (n more : ℕ) (now next : EntryRoom)
    → filled n now ≡ fill_to q k m → filled more next ≡ turn q.bytes q.oklab q.zero k (filled n now)
    → 4 * k + 3 < length m.bytes → 3 * k + 2 < length m.oklab → k < length m.counts
    → filled more next ≡ fill_to q (k + 1) m
turn_on q k m n more now next e f hb ho hc = f ∙ ap (turn q.bytes q.oklab q.zero k) e ∙ turn_fills q k m hb ho hc

pub ended : (q : Pixels) (m : EntryRoom) (k n : ℕ) (f : Filled) → f ≡ fill_to q k m → k ≤ n → n ≤ k → f ≡ fill_to q n m
ended q m k n f e h g = let s : k ≡ n = omega arith in e ∙ ap (λ (j : ℕ). fill_to q j m) s
