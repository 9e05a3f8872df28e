-- What even draws are: t / n times each, rounded down or up. Assumes nothing.
use Rattle.std.specs.Prelude.{◌≡◌, ℕ, ◌+◌, ◌/◌, ◌%◌, ◌≤◌}

-- h is t / n, rounded down or up
pub record Even (n t h : ℕ) : Type 0 where
  pub least : t / n ≤ h
  pub most : h ≤ t / n + 1
  pub exact : t % n ≡ 0 → h ≡ t / n
