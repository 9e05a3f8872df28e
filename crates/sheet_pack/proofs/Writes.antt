-- Fields written one after another: what is left to write gives the whole. Assumes nothing.
use mathlib.Core.Path.{◌≡◌, refl, sym, ap, ap₂, ◌∙◌, subst⁻¹}
use Prim.Native.Nat.{ℕ, zero, suc, pred, ◌+◌, ◌-◌, ◌*◌, ◌≤◌, ◌<◌}
use native.Mathlib.Omega.{arith}
use native.Mathlib.Numerals.{add-one}
use mathlib.Core.Bool.{Bool}
use mathlib.Core.List.{List, [], ◌∷◌, ◌++◌}
use lib.ListN.{length, get_or, take, drop, length-drop}
use lib.Seq.{sets, drop-cons, drop-drop, length-take-le, get_or-take, get_or-drop}
use lib.Ieee.{Float, nan, binary32, to_bits}
use Rattle.bits.specs.Bits.{bits, bits_of, written}
use Rattle.bits.proofs.Numbers.{length-bits_of}
use Rattle.bits.proofs.Bytes.{length-bits}
use Rattle.bits.proofs.Fields.{length-written, sets_append, written-sets}
use Rattle.ieee.specs.Terms.{Within}
use Rattle.color.specs.Color.{Bounded}
use Rattle.sheet_format.specs.declared.Edition.{Edition}
use Rattle.sheet_format.specs.Sheet.{opening, Colour, entry_size}
use Rattle.sheet_format.specs.Lists.{patterns}
use Rattle.sheet_pack.specs.Packed.{colours_of, tiles_from, words, colours_bits, tile_bits, tiles_bits, head_bits}
use Rattle.sheet_pack.proofs.Prints.{length-words, length-colours_of, three}

-- ---- a field, and a run of bits, at the head of what is left
pub field_put : (l m : List Bool) (q k v : ℕ) (t g : List Bool) → q + k ≤ length l → m ≡ written l q k v → sets l q (bits_of k v ++ t) ≡ g → sets m (q + k) t ≡ g
field_put l m q k v t g h e inv =
    ap (λ (x : List Bool). sets x (q + k) t) (e ∙ written-sets l q k v h)
    ∙ sym (sets_append (bits_of k v) t l q ∙ ap (λ (n : ℕ). sets (sets l q (bits_of k v)) (q + n) t) (length-bits_of k v))
    ∙ inv

pub run_put : (l m : List Bool) (q k : ℕ) (x t g : List Bool) → length x ≡ k → m ≡ sets l q x → sets l q (x ++ t) ≡ g → sets m (q + k) t ≡ g
run_put l m q k x t g n e inv =
    ap (λ (y : List Bool). sets y (q + k) t) e ∙ sym (sets_append x t l q ∙ ap (λ (m : ℕ). sets (sets l q x) (q + m) t) n) ∙ inv

-- ---- components
pub words_again : (f : List Float) (s u : List ℕ) (q i v : ℕ) (g : List Bool) → i < length f → q + 32 ≤ 8 * length s
    → v ≡ to_bits binary32 (get_or f i nan) → bits u ≡ written (bits s) q 32 v
    → sets (bits s) q (words (patterns (drop i f))) ≡ g → sets (bits u) (q + 32) (words (patterns (drop (i + 1) f))) ≡ g
words_again f s u q i v g h room e w inv =
    let t : List Bool = words (patterns (drop (i + 1) f)) in
    let split : drop i f ≡ get_or f i nan ∷ drop (i + 1) f = drop-cons f i nan h ∙ ap (λ (n : ℕ). get_or f i nan ∷ drop n f) (sym (add-one i)) in
    field_put (bits s) (bits u) q 32 v t g (rw length-bits room) w
    (ap (λ (o : ℕ). sets (bits s) q (bits_of 32 o ++ t)) e ∙ sym (ap (λ (l : List Float). sets (bits s) q (words (patterns l))) split) ∙ inv)

none_left : {A : Type 0} (l : List A) (i : ℕ) → length l ≤ i → drop i l ≡ []
none_left [] zero h = refl
none_left [] (suc i) h = refl
none_left (x ∷ l) zero h = absurd (omega arith)
none_left (x ∷ l) (suc i) h = none_left l i (omega arith)

pub words_end : (f : List Float) (s : List ℕ) (q i : ℕ) (g : List Bool) → length f ≤ i → sets (bits s) q (words (patterns (drop i f))) ≡ g → bits s ≡ g
words_end f s q i g h inv = sym (ap (λ (l : List Float). sets (bits s) q (words (patterns l))) (none_left f i h)) ∙ inv

-- ---- three components from place a on, as a slice gives them
module _ (f : List Float) (a : ℕ) (h : a + 3 ≤ length f) where
  just_three : a + 3 - a ≡ 3
  just_three = omega arith

  pub three-part : take (a + 3 - a) (drop a f) ≡ take 3 (drop a f)
  three-part = ap (λ (n : ℕ). take n (drop a f)) just_three

  pub three-long : length (take (a + 3 - a) (drop a f)) ≡ 3
  three-long = ap length three-part ∙ length-take-le 3 (drop a f) (rw length-drop (omega arith))

  pub three-bounded : (k : ℕ) → Bounded f k → Bounded (take (a + 3 - a) (drop a f)) k
  three-bounded k b i l =
      subst⁻¹ (λ (x : Float). Within x k 1)
      (get_or-take (a + 3 - a) (drop a f) i nan (omega (arith, three-long)) ∙ get_or-drop a f i nan)
      (b (a + i) (omega (arith, three-long)))

-- ---- a tile's colours
less_one : (n : ℕ) → n - 1 ≡ pred n
less_one zero = refl
less_one (suc n) = omega arith

pub colours_again : (E : Edition) (cs : List ℕ) (f : List Float) (s u v : List ℕ) (q i : ℕ) (g : List Bool) → i < length cs → length f ≡ 3 * length cs → q + E.each ≤ 8 * length s
    → bits u ≡ written (bits s) q E.each (get_or cs i 0 - 1)
    → bits v ≡ sets (bits u) (q + E.each) (words (patterns (take 3 (drop (3 * i) f))))
    → sets (bits s) q (colours_bits E (colours_of (drop i cs) (drop (3 * i) f))) ≡ g
    → sets (bits v) (q + entry_size E) (colours_bits E (colours_of (drop (i + 1) cs) (drop (3 * (i + 1)) f))) ≡ g
colours_again E cs f s u v q i g h l room w x inv =
    let c : ℕ = get_or cs i 0 in
    let split : drop i cs ≡ c ∷ drop (i + 1) cs = drop-cons cs i 0 h ∙ ap (λ (n : ℕ). c ∷ drop n cs) (sym (add-one i)) in
    let on : 3 * i + 3 ≡ 3 * (i + 1) = omega arith in
    let next : drop 3 (drop (3 * i) f) ≡ drop (3 * (i + 1)) f = drop-drop 3 (3 * i) f ∙ ap (λ (n : ℕ). drop n f) on in
    let b : q + entry_size E ≡ q + E.each + 96 = omega arith in
    let y : List Bool = words (patterns (take 3 (drop (3 * i) f))) in
    let t : List Bool = colours_bits E (colours_of (drop (i + 1) cs) (drop (3 * (i + 1)) f)) in
    let ly : length y ≡ 96 = length-words (patterns (take 3 (drop (3 * i) f))) ∙ ap (λ (m : ℕ). 32 * m) (three (drop (3 * i) f) (rw length-drop (omega arith))) in
    ap (λ (m : ℕ). sets (bits v) m t) b
    ∙ run_put (bits u) (bits v) (q + E.each) 96 y t g ly x
    (field_put (bits s) (bits u) q E.each (c - 1) (y ++ t) g (rw length-bits room) w
    (ap (λ (m : ℕ). sets (bits s) q (bits_of E.each m ++ (y ++ t))) (less_one c)
    ∙ ap (λ (m : List Float). sets (bits s) q (bits_of E.each (pred c) ++ (y ++ colours_bits E (colours_of (drop (i + 1) cs) m)))) (sym next)
    ∙ sym (ap (λ (m : List ℕ). sets (bits s) q (colours_bits E (colours_of m (drop (3 * i) f)))) split)
    ∙ inv))

pub colours_end : (E : Edition) (cs : List ℕ) (f : List Float) (s : List ℕ) (q i : ℕ) (g : List Bool) → length cs ≤ i → sets (bits s) q (colours_bits E (colours_of (drop i cs) (drop (3 * i) f))) ≡ g → bits s ≡ g
colours_end E cs f s q i g h inv = sym (ap (λ (m : List ℕ). sets (bits s) q (colours_bits E (colours_of m (drop (3 * i) f)))) (none_left cs i h)) ∙ inv

-- a tile: its number of colours, then those
pub tile-done : (E : Edition) (cs : List ℕ) (f : List Float) (l m n : List Bool) (p k : ℕ) → p + E.many ≤ length l → k ≡ length cs → m ≡ written l p E.many k
    → n ≡ sets m (p + E.many) (colours_bits E (colours_of cs f)) → n ≡ sets l p (tile_bits E (colours_of cs f))
tile-done E cs f l m n p k h e w x =
    x ∙ field_put l m p E.many k (colours_bits E (colours_of cs f)) (sets l p (tile_bits E (colours_of cs f))) h w
    (ap (λ (j : ℕ). sets l p (bits_of E.many j ++ colours_bits E (colours_of cs f))) (e ∙ sym (length-colours_of cs f)))

-- ---- tiles
module _ (E : Edition) (tb : List ℕ) (f : List Float) (cs : List ℕ) where
  pub tiles_again : (s u : List ℕ) (t q i k : ℕ) (x : List Colour) (g : List Bool) → i < t → length (tile_bits E x) ≡ k
      → x ∷ tiles_from tb f cs (suc i) (t - (i + 1)) ≡ tiles_from tb f cs i (suc (t - (i + 1)))
      → bits u ≡ sets (bits s) q (tile_bits E x)
      → sets (bits s) q (tiles_bits E (tiles_from tb f cs i (t - i))) ≡ g
      → sets (bits u) (q + k) (tiles_bits E (tiles_from tb f cs (i + 1) (t - (i + 1)))) ≡ g
  tiles_again s u t q i k x g h n same w inv =
      let o : t - i ≡ suc (t - (i + 1)) = omega arith in
      let a : i + 1 ≡ suc i = omega arith in
      ap (λ (j : ℕ). sets (bits u) (q + k) (tiles_bits E (tiles_from tb f cs j (t - (i + 1))))) a
      ∙ run_put (bits s) (bits u) q k (tile_bits E x) (tiles_bits E (tiles_from tb f cs (suc i) (t - (i + 1)))) g n w
      (ap (λ (v : List (List Colour)). sets (bits s) q (tiles_bits E v)) same
      ∙ sym (ap (λ (m : ℕ). sets (bits s) q (tiles_bits E (tiles_from tb f cs i m))) o) ∙ inv)

  pub tiles_end : (s : List ℕ) (q t i : ℕ) (g : List Bool) → t ≤ i → sets (bits s) q (tiles_bits E (tiles_from tb f cs i (t - i))) ≡ g → bits s ≡ g
  tiles_end s q t i g h inv =
      let o : t - i ≡ 0 = omega arith in
      sym (ap (λ (m : ℕ). sets (bits s) q (tiles_bits E (tiles_from tb f cs i m))) o) ∙ inv

-- ---- the head: six fields
pub head_done : (E : Edition) (l l₁ l₂ l₃ l₄ l₅ l₆ : List Bool) (s c t w : ℕ) → 86 ≤ length l
    → l₁ ≡ written l 0 32 opening → l₂ ≡ written l₁ 32 4 E.number → l₃ ≡ written l₂ 36 4 (s - 1) → l₄ ≡ written l₃ 40 4 (c - 1)
    → l₅ ≡ written l₄ 44 10 (t - 1) → l₆ ≡ written l₅ 54 32 w → l₆ ≡ sets l 0 (head_bits E s c t w)
unfolding head_bits
head_done E l l₁ l₂ l₃ l₄ l₅ l₆ s c t w h e₁ e₂ e₃ e₄ e₅ e₆ =
    let n₁ : length l₁ ≡ length l = ap length e₁ ∙ length-written l 0 32 opening (omega arith) in
    let n₂ : length l₂ ≡ length l = ap length e₂ ∙ length-written l₁ 32 4 E.number (omega arith) ∙ n₁ in
    let n₃ : length l₃ ≡ length l = ap length e₃ ∙ length-written l₂ 36 4 (s - 1) (omega arith) ∙ n₂ in
    let n₄ : length l₄ ≡ length l = ap length e₄ ∙ length-written l₃ 40 4 (c - 1) (omega arith) ∙ n₃ in
    let n₅ : length l₅ ≡ length l = ap length e₅ ∙ length-written l₄ 44 10 (t - 1) (omega arith) ∙ n₄ in
    let five : List Bool = bits_of 10 (t - 1) ++ bits_of 32 w in
    let four : List Bool = bits_of 4 (c - 1) ++ five in
    let three : List Bool = bits_of 4 (s - 1) ++ four in
    let two : List Bool = bits_of 4 E.number ++ three in
    let g : List Bool = sets l 0 (head_bits E s c t w) in
    let whole : bits_of 32 opening ++ two ≡ head_bits E s c t w =
    ap₂ (λ (x y : ℕ). bits_of 32 opening ++ (bits_of 4 E.number ++ (bits_of 4 x ++ (bits_of 4 y ++ five)))) (less_one s) (less_one c)
    ∙ ap (λ (z : ℕ). bits_of 32 opening ++ (bits_of 4 E.number ++ (bits_of 4 (pred s) ++ (bits_of 4 (pred c) ++ (bits_of 10 z ++ bits_of 32 w))))) (less_one t) in
    let a = field_put l l₁ 0 32 opening two g (omega arith) e₁ (ap (sets l 0) whole) in
    let b = field_put l₁ l₂ 32 4 E.number three g (omega arith) e₂ a in
    let d = field_put l₂ l₃ 36 4 (s - 1) four g (omega arith) e₃ b in
    let f = field_put l₃ l₄ 40 4 (c - 1) five g (omega arith) e₄ d in
    let i = field_put l₄ l₅ 44 10 (t - 1) (bits_of 32 w) g (omega arith) e₅ f in
    e₆ ∙ written-sets l₅ 54 32 w (omega arith) ∙ i
