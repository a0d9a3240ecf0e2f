-- The number of this release, by which a caller who was built with another header sees it. docs/RULES.md says when it rises.
use Rattle.std.specs.Prelude.{ℕ, ◌+◌, ◌*◌}

abbrev pub release : ℕ → ℕ → ℕ → ℕ
release major minor patch = 10_000 * major + 100 * minor + patch

abbrev pub version : ℕ
version = release 4 3 0
