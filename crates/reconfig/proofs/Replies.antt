-- Replies are short, and each of their bytes prints.
use Rattle.std.proofs.Common.{◌≡◌, ℕ, ◌+◌, ◌%◌, ◌^◌, ◌<◌, ◌≤◌, nat_le, Bool, true, ◌&&◌, List, [], ◌∷◌, ◌++◌, length, Result, Ok, Err, refl, arith}
use Rattle.std.proofs.lemmas.Grind.{common_steps}
use Rattle.std.proofs.lemmas.List.{length-append}
use Rattle.std.proofs.lemmas.Fmt.{length-decimal-le, decimal_by_steps}
use Rattle.std.specs.Prelude.{codes}
use Rattle.std.specs.Fmt.{decimal}
use Rattle.std.specs.List.{list_all}
use Rattle.smart_base.specs.Lists.{Each}
use Rattle.smart_base.specs.FieldLaws.{and_true}
use Rattle.smart_base.specs.Views.{View, present}
use Rattle.smart_view.specs.Making.{name_of}
use Rattle.smart_view.specs.declared.fault.ViewFault.{ViewFault}
use Rattle.smart_view.specs.declared.fault.ViewFault.TheVariants.{TooFew, TooMany, Repeated, Zero, Spent}
use Rattle.reconfig.specs.declared.change.Change.{Change}
use Rattle.reconfig.specs.declared.outcome.Outcome.{Outcome}
use Rattle.reconfig.specs.declared.outcome.Outcome.TheVariants.{Begins, Refused, NoChange}
use Rattle.reconfig.specs.Changes.{change_of}
use Rattle.reconfig.specs.Applied.{applied}
use Rattle.reconfig.specs.Outcomes.{outcome_made, outcome_read, outcome_of, reply_of}
use Rattle.reconfig.proofs.Faults.{small_number}

abbrev Prints : ℕ → Type 0
Prints byte = (32 ≤ byte) × (byte ≤ 126)

-- ---- bytes that print

abbrev print_test : ℕ → Bool
print_test byte = nat_le 32 byte && nat_le byte 126

le_true : (a b : ℕ) → nat_le a b ≡ true → a ≤ b
le_true a b is = grind (arith, common_steps)

tested : (text : List ℕ) → list_all print_test text ≡ true → Each Prints text
tested [] is = tt
tested (byte ∷ text) is =
    let parts = and_true (print_test byte) (list_all print_test text) is in
    let here = and_true (nat_le 32 byte) (nat_le byte 126) parts.0 in
    ((le_true 32 byte here.0, le_true byte 126 here.1), tested text parts.1)

each-append : (a b : List ℕ) → Each Prints a → Each Prints b → Each Prints (a ++ b)
each-append [] b p q = q
each-append (x ∷ a) b p q = (p.0, each-append a b p.1 q)

printable_end : (text : List ℕ) (n : ℕ) → Each Prints text → Each Prints (text ++ (48 + n % 10) ∷ [])
printable_end [] n h = ((omega arith, omega arith), tt)
printable_end (byte ∷ text) n h = (h.0, printable_end text n h.1)

printable_number : (n : ℕ) → n < 2 ^ 64 → Each Prints (decimal n)
printable_number n small =
    decimal_by_steps (λ n text. Each Prints text) (λ n digit. ((omega arith, omega (arith, digit)), tt)) (λ n text more h. printable_end text n h) n small

printable_name : (fault : ViewFault) → Each Prints (name_of fault)
printable_name TooFew = tested (name_of TooFew) refl
printable_name TooMany = tested (name_of TooMany) refl
printable_name Repeated = tested (name_of Repeated) refl
printable_name Zero = tested (name_of Zero) refl
printable_name Spent = tested (name_of Spent) refl

-- ---- replies

-- a view that begins has a number below 2 ^ 64
abbrev Small : Outcome → Type 0
Small (Begins view) = view.number < 2 ^ 64
Small (Refused fault) = Unit {0}
Small NoChange = Unit {0}

-- a number of 32 bits has few digits
pub short_decimal : (n : ℕ) → n < 2 ^ 32 → length (decimal n) ≤ 10
short_decimal n small = length-decimal-le 10 n (omega arith) (omega (arith, small)) (omega (arith, small))

pub short_name : (fault : ViewFault) → length (name_of fault) ≤ 10
short_name TooFew = omega arith
short_name TooMany = omega arith
short_name Repeated = omega arith
short_name Zero = omega arith
short_name Spent = omega arith

pub short_reply : (o : Outcome) → Small o → length (reply_of o) ≤ 4096
short_reply (Begins view) small =
    omega (arith, length-append (codes "view ") (decimal view.number), length-decimal-le 20 view.number (omega arith) (omega (arith, small)) small)
short_reply (Refused fault) small = omega (arith, length-append (codes "refused ") (name_of fault), short_name fault)
short_reply NoChange small = omega arith

printed_reply : (o : Outcome) → Small o → Each Prints (reply_of o)
printed_reply (Begins view) small = each-append (codes "view ") (decimal view.number) (tested (codes "view ") refl) (printable_number view.number small)
printed_reply (Refused fault) small = each-append (codes "refused ") (name_of fault) (tested (codes "refused ") refl) (printable_name fault)
printed_reply NoChange small = tested (codes "?") refl

made_small : (v : View) (start : ℕ) (c : Change) (r : Result View ViewFault) → applied v start c ≡ r → Small (outcome_made r)
made_small v start c (Ok w) is = omega (arith, small_number v start c w is)
made_small v start c (Err fault) is = tt

read_small : (views : List View) (r : Result Change ℕ) (place : ℕ) → Small (outcome_read views r place)
read_small views (Ok c) place = made_small (present views) (place + 1) c (applied (present views) (place + 1) c) refl
read_small views (Err at) place = tt

pub brief : (views : List View) (op : List ℕ) (place : ℕ) → length (reply_of (outcome_of views op place)) ≤ 4096
brief views op place = short_reply (outcome_of views op place) (read_small views (change_of op) place)

pub prints : (views : List View) (op : List ℕ) (place : ℕ) → Each Prints (reply_of (outcome_of views op place))
prints views op place = printed_reply (outcome_of views op place) (read_small views (change_of op) place)
