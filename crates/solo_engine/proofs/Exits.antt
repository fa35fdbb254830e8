-- What an answer's clauses say on an exit.
use Rattle.std.proofs.Common.{◌≡◌, Result, Ok, Err, true, false}
use Rattle.std.specs.Prelude.{OnErr, OnOk, is_err}

-- what holds anyway holds after an error
pub on_err : {T E : Type 0} (r : Result T E) (P : Type 0) → P → OnErr r P
on_err (Ok value) P p = tt
on_err (Err e) P p = p

-- what a refusal or an answer says
pub err_of : {T E : Type 0} (r : Result T E) (P : Type 0) → OnErr r P → is_err r ≡ true → P
err_of (Ok value) P on failed = absurd (cc)
err_of (Err e) P on failed = on

pub ok_of : {T E : Type 0} (r : Result T E) (P : Type 0) → OnOk r P → is_err r ≡ false → P
ok_of (Ok value) P on well = on
ok_of (Err e) P on well = absurd (cc)
