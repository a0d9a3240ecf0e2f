-- The kinds by their numbers.
use Rattle.std.specs.Prelude.{◌≡◌, ℕ, Result, MatchResult}
use Rattle.definitions.specs.declared.Refusal.{Refusal}
use Rattle.definitions.specs.declared.Refusal.TheVariants as refusal
use Rattle.definitions.specs.Events.{length_of}
use Rattle.events.specs.declared.kind.Kind.{Kind}
use Rattle.events.specs.declared.kind.Kind.TheVariants as kind

abbrev pub kind_number : Kind → ℕ
kind_number kind.Clock = 1
kind_number kind.Session = 2
kind_number kind.Setup = 3
kind_number kind.Prices = 4
kind_number kind.Order = 5
kind_number kind.Cancel = 6
kind_number kind.Match = 7
kind_number kind.Rest = 8
kind_number kind.Figures = 9

-- the kind that has the number, or the refusal of one that no kind has
abbrev pub Numbers : ℕ → Result Kind Refusal → Type 0
Numbers n r = MatchResult r (λ k. kind_number k ≡ n) (λ e. (e ≡ refusal.Kind) × (length_of n ≡ 0))
