-- What holds on success.
use Rattle.std.proofs.Common.{Result, Ok, Err, OnOk}

-- what holds anyhow
pub OnOk-always : {T E P : Type 0} (result : Result T E) → P → OnOk result P
OnOk-always (Ok value) holds = holds
OnOk-always (Err error) holds = tt

-- what holds where a premise is given
pub OnOk-given : {T E G P Q : Type 0} (result : Result T E) → (G → OnOk result P) → (G → P → Q) → OnOk result (G → Q)
OnOk-given (Ok value) holds follows = λ given. follows given (holds given)
OnOk-given (Err error) holds follows = tt

-- two facts under one premise
pub OnOk-both : {T E G P Q R : Type 0} (result : Result T E) → OnOk result (G → P) → OnOk result (G → Q) → (G → P → Q → R) → OnOk result (G → R)
OnOk-both (Ok value) first second follows = λ given. follows given (first given) (second given)
OnOk-both (Err error) first second follows = tt
