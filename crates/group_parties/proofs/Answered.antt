-- What is known of an answer that is tested.
use Rattle.std.proofs.Common.{◌≡◌, true, Result, Ok, Err, is_ok, OnOk, sym, true≢false}

pub if-ok : {A E P : Type 0} (r : Result A E) → is_ok r ≡ true → OnOk r P → P
if-ok (Ok x) passes is = is
if-ok (Err e) passes is = absurd (true≢false (sym passes))
