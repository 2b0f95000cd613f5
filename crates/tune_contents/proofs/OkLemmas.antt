-- What is known of an answer, and what follows where it is no fault.
use Rattle.std.proofs.Common.{Result, Ok, Err, IfOk}

pub ok_one : {T E : Type 0} (r : Result T E) (P Q : T → Type 0) → ((x : T) → P x → Q x) → IfOk r P → IfOk r Q
ok_one (Ok x) P Q then p = then x p
ok_one (Err e) P Q then p = tt

pub ok_two : {T E : Type 0} (r : Result T E) (P Q S : T → Type 0) → ((x : T) → P x → Q x → S x) → IfOk r P → IfOk r Q → IfOk r S
ok_two (Ok x) P Q S then p q = then x p q
ok_two (Err e) P Q S then p q = tt

pub ok_three : {T E : Type 0} (r : Result T E) (P Q R S : T → Type 0) → ((x : T) → P x → Q x → R x → S x) → IfOk r P → IfOk r Q → IfOk r R
    → IfOk r S
ok_three (Ok x) P Q R S then p q s = then x p q s
ok_three (Err e) P Q R S then p q s = tt
