-- What a call that checks something returns.
-- Source: none; it is one form for the contracts of several crates.
use Rattle.std.specs.Prelude.{◌≡◌, Result, Ok, Err, Option, Some, None, IfSome}

-- `Ok` only if there is no fault; an error that reports a fault reports the first. `says` is the fault that an error reports: none for an
-- error without a cause, such as `NoMemory`.
abbrev pub Tells : {A F E : Type 0} → (says : E → Option F) → Option F → Result A E → Type 0
Tells says fault (Ok answer) = fault ≡ None
Tells says fault (Err error) = IfSome (says error) (λ first. fault ≡ Some first)
