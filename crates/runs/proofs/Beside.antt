-- What two runs in step have at each item.
use mathlib.Core.Option.{Option, none, some}

-- Two answers beside each other: both are there and related, or neither is. `Alone` says when the second may be there alone.
abbrev pub Beside : {A B : Type 0} → Type 0 → (A → B → Type 0) → Option A → Option B → Type 0
Beside Alone P none none = Unit {0}
Beside Alone P none (some b) = Alone
Beside Alone P (some a) none = ⊥
Beside Alone P (some a) (some b) = P a b
