-- A word of 32 bits: its kind is the top 4 bits, its payload the other 28.
use Rattle.std.specs.Prelude.{◌≡◌, ◌≢◌, ℕ, ◌+◌, ◌*◌, ◌/◌, ◌%◌, ◌^◌, Result, MatchResult}
use Rattle.word.specs.declared.Kind.{Kind}
use Rattle.word.specs.declared.Kind.TheVariants.{Leaf, Index, Speed, Angle, Child, Slot, Clone, Log, Record}
use Rattle.word.specs.declared.UnknownKind.{UnknownKind}

abbrev pub kind_of : ℕ → ℕ
kind_of x = x / 2 ^ 28

abbrev pub payload_of : ℕ → ℕ
payload_of x = x % 2 ^ 28

abbrev pub word_of : ℕ → ℕ → ℕ
word_of kind payload = kind * 2 ^ 28 + payload

-- the number of a kind
abbrev pub number : Kind → ℕ
number Leaf = 1
number Index = 2
number Speed = 3
number Angle = 4
number Child = 5
number Slot = 6
number Clone = 7
number Log = 8
number Record = 9

-- the kind of word x, or its number where no kind has that
abbrev pub KindIs : ℕ → Result Kind UnknownKind → Type 0
KindIs x r = MatchResult r (λ k. number k ≡ kind_of x) (λ e. (e.0 ≡ kind_of x) × ((k : Kind) → number k ≢ kind_of x))
