-- Values that words give one by one.
use Rattle.std.proofs.Common.{◌≡◌, ℕ, List, [], ◌∷◌, ◌++◌, Option, Some, None, refl, ap, append_assoc}
use Rattle.world_rules.specs.Scripts.{with_value, hex_value, byte_by, hex_bytes}

-- values that stand in front of those that the words left give
abbrev pub behind_values : {A : Type 0} → List A → Option (List A) → Option (List A)
behind_values xs None = None
behind_values xs (Some ys) = Some (xs ++ ys)

pub one_more : {A : Type 0} (xs : List A) (x : A) (values : Option (List A)) → behind_values (xs ++ x ∷ []) values ≡ behind_values xs (with_value (Some x) values)
one_more xs x None = refl
one_more xs x (Some ys) = ap Some (append_assoc xs (x ∷ []) ys)

-- the next two digits are a byte
pub next_byte : (bytes digits rest more : List ℕ) (high low byte : ℕ) → digits ≡ high ∷ rest → rest ≡ low ∷ more → byte_by (hex_value high) (hex_value low) ≡ Some byte
    → behind_values (bytes ++ byte ∷ []) (hex_bytes more) ≡ behind_values bytes (hex_bytes digits)
next_byte bytes digits rest more high low byte e f is = rw (e, f, is) (one_more bytes byte (hex_bytes more))
