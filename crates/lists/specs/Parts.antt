-- A flat list read as rows of `stride` places, and a row's first places copied to another row. Definitions only. Assumes nothing.
use Rattle.std.specs.Prelude.{ℕ, ◌*◌, List, take, drop}
use Rattle.std.proofs.Math.Seq.{paste}

module _ {A : Type 0} where
  -- the first `width` places of row i
  abbrev pub part : List A → ℕ → ℕ → ℕ → List A
  part s stride width i = take width (drop (i * stride) s)

  -- the first `width` places of row `to` become those of row `from`
  abbrev pub copied : List A → ℕ → ℕ → ℕ → ℕ → List A
  copied s stride width from to = paste s (to * stride) (part s stride width from) width
