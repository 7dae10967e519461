-- Signed statements have no fault exactly where they are as wanted, of enough distinct members of a view.
use Rattle.std.proofs.Common.{◌≡◌, ℕ, ◌≤◌, ◌==◌, nat_le, Bool, true, false, ◌||◌, List, [], ◌∷◌, ◌++◌, refl, sym, ◌∙◌, ap, arith}
use Rattle.std.specs.Prelude.{◌↔◌, Option, Some, None, Result, Ok, if◌then◌else◌}
use Rattle.std.specs.List.{list_any}
use Rattle.std.proofs.lemmas.Grind.{common_steps}
use Rattle.std.proofs.lemmas.List.Folds.{list_any-append}
use Rattle.smart_base.specs.Lists.{or_else, Each}
use Rattle.smart_base.specs.Views.{View, is_member}
use Rattle.smart_statements.specs.Forms.{Form, SignedBy}
use Rattle.certificates.specs.Certificates.{is_verified, signers, AreSigned, signer_fault, item_fault, fault_behind, first_fault, passed}
use Rattle.certificates.proofs.Faults.{passed_ok}
use Rattle.certificates.specs.declared.fault.CertFault.{CertFault}
use Rattle.certificates.specs.declared.fault.CertFault.TheVariants.{TooFew, Stranger, Twice, Unequal, BadTag}

-- ---- signers that are not among earlier ones

-- no signer is among earlier ones
abbrev Fresh : List ℕ → List ℕ → Type 0
Fresh earlier names = Each (λ name. list_any (λ m. m == name) earlier ≡ false) names

or_parts : (a b : Bool) → (a || b) ≡ false → (a ≡ false) × (b ≡ false)
or_parts true b is = absurd (cc)
or_parts false b is = (refl, is)

turned : (a b : ℕ) → (a == b) ≡ false → (b == a) ≡ false
turned a b differ = grind (arith, common_steps)

alone : (a : ℕ) (p : ℕ → Bool) → list_any p (a ∷ []) ≡ p a
alone a p = one (p a)
  where
    one : (b : Bool) → (b || false) ≡ b
    one true = refl
    one false = refl

more_parts : (earlier : List ℕ) (signer name : ℕ) → list_any (λ m. m == name) (earlier ++ signer ∷ []) ≡ false
    → (list_any (λ m. m == name) earlier ≡ false) × ((signer == name) ≡ false)
more_parts earlier signer name is =
    let parts = or_parts (list_any (λ m. m == name) earlier) (list_any (λ m. m == name) (signer ∷ []))
    (sym (list_any-append (λ m. m == name) earlier (signer ∷ [])) ∙ is) in
    (parts.0, sym (alone signer (λ m. m == name)) ∙ parts.1)

more_from : (earlier : List ℕ) (signer name : ℕ) → list_any (λ m. m == name) earlier ≡ false → (signer == name) ≡ false
    → list_any (λ m. m == name) (earlier ++ signer ∷ []) ≡ false
more_from earlier signer name not_earlier differ = rw (list_any-append (λ m. m == name) earlier (signer ∷ []), not_earlier, differ) refl

fresh_earlier : (earlier : List ℕ) (signer : ℕ) (names : List ℕ) → Fresh (earlier ++ signer ∷ []) names → Fresh earlier names
fresh_earlier earlier signer [] fresh = tt
fresh_earlier earlier signer (name ∷ names) fresh = ((more_parts earlier signer name fresh.0).0, fresh_earlier earlier signer names fresh.1)

fresh_signer : (earlier : List ℕ) (signer : ℕ) (names : List ℕ) → Fresh (earlier ++ signer ∷ []) names → list_any (λ m. m == signer) names ≡ false
fresh_signer earlier signer [] fresh = refl
fresh_signer earlier signer (name ∷ names) fresh =
    let differ : (name == signer) ≡ false = turned signer name (more_parts earlier signer name fresh.0).1 in
    rw differ (fresh_signer earlier signer names fresh.1)

fresh_more : (earlier : List ℕ) (signer : ℕ) (names : List ℕ) → Fresh earlier names → list_any (λ m. m == signer) names ≡ false → Fresh (earlier ++ signer ∷ []) names
fresh_more earlier signer [] fresh apart = tt
fresh_more earlier signer (name ∷ names) fresh apart =
    let parts = or_parts (name == signer) (list_any (λ m. m == signer) names) apart in
    (more_from earlier signer name fresh.0 (turned name signer parts.0), fresh_more earlier signer names fresh.1 parts.1)

fresh_first : (names : List ℕ) → Fresh [] names
fresh_first [] = tt
fresh_first (name ∷ names) = (refl, fresh_first names)

-- ---- faults that are not there

else_parts : (a b : Option CertFault) → or_else a b ≡ None → (a ≡ None) × (b ≡ None)
else_parts None b is = (refl, is)
else_parts (Some fault) b is = absurd (cc)

else_from : (a b : Option CertFault) → a ≡ None → b ≡ None → or_else a b ≡ None
else_from a b one two = rw (one, two) refl

signer_parts : (v : View) (earlier : List ℕ) (signer : ℕ) (a b : Bool) → is_member v signer ≡ a → list_any (λ m. m == signer) earlier ≡ b
    → signer_fault v earlier signer ≡ None → (is_member v signer ≡ true) × (list_any (λ m. m == signer) earlier ≡ false)
signer_parts v earlier signer true true one two is = let twice : Some Twice ≡ None = rw (one, two) at is in absurd (cc)
signer_parts v earlier signer true false one two is = (one, two)
signer_parts v earlier signer false b one two is = let stranger : Some Stranger ≡ None = rw one at is in absurd (cc)

signer_from : (v : View) (earlier : List ℕ) (signer : ℕ) → is_member v signer ≡ true → list_any (λ m. m == signer) earlier ≡ false
    → signer_fault v earlier signer ≡ None
signer_from v earlier signer one two = rw (one, two) refl

item_parts : {S : Type 0} (secret : List ℕ) (form : Form S) (is_wanted : S → Bool) (item : SignedBy S) (a b : Bool)
    → is_wanted item.statement ≡ a → is_verified secret form item ≡ b
    → item_fault secret form is_wanted item ≡ None → (is_wanted item.statement ≡ true) × (is_verified secret form item ≡ true)
item_parts secret form is_wanted item true true one two is = (one, two)
item_parts secret form is_wanted item true false one two is = let bad : Some BadTag ≡ None = rw (one, two) at is in absurd (cc)
item_parts secret form is_wanted item false b one two is = let unequal : Some Unequal ≡ None = rw one at is in absurd (cc)

item_from : {S : Type 0} (secret : List ℕ) (form : Form S) (is_wanted : S → Bool) (item : SignedBy S)
    → is_wanted item.statement ≡ true → is_verified secret form item ≡ true → item_fault secret form is_wanted item ≡ None
item_from secret form is_wanted item wanted verified = rw (wanted, verified) refl

-- ---- statements behind earlier signers

-- a test tells what is wanted
abbrev pub Tells : {S : Type 0} → (S → Bool) → (S → Type 0) → Type 0
Tells {S} is_wanted Wanted = (s : S) → (is_wanted s ≡ true) ↔ Wanted s

record Behind (S : Type 0) (secret : List ℕ) (form : Form S) (v : View) (Wanted : S → Type 0) (earlier : List ℕ) (items : List (SignedBy S)) : Type 0 where
  fresh : Fresh earlier (signers items)
  signed : AreSigned S secret form v Wanted items

behind : {S : Type 0} (secret : List ℕ) (form : Form S) (v : View) (is_wanted : S → Bool) (Wanted : S → Type 0) → Tells is_wanted Wanted
    → (earlier : List ℕ) (items : List (SignedBy S))
    → fault_behind v (item_fault secret form is_wanted) earlier items ≡ None → Behind S secret form v Wanted earlier items
behind secret form v is_wanted Wanted tells earlier [] is = record { fresh = tt; signed = record { members = tt; distinct = tt; stated = tt; verified = tt } }
behind secret form v is_wanted Wanted tells earlier (item ∷ items) is =
    let rest = fault_behind v (item_fault secret form is_wanted) (earlier ++ item.signer ∷ []) items in
    let first = else_parts (signer_fault v earlier item.signer) (or_else (item_fault secret form is_wanted item) rest) is in
    let second = else_parts (item_fault secret form is_wanted item) rest first.1 in
    let signer = signer_parts v earlier item.signer (is_member v item.signer) (list_any (λ m. m == item.signer) earlier) refl refl first.0 in
    let stated = item_parts secret form is_wanted item (is_wanted item.statement) (is_verified secret form item) refl refl second.0 in
    let more = behind secret form v is_wanted Wanted tells (earlier ++ item.signer ∷ []) items second.1 in
    record {
      fresh = (signer.1, fresh_earlier earlier item.signer (signers items) more.fresh);
      signed = record {
        members = (signer.0, more.signed.members);
        distinct = (fresh_signer earlier item.signer (signers items) more.fresh, more.signed.distinct);
        stated = ((tells item.statement).0 stated.0, more.signed.stated);
        verified = (stated.1, more.signed.verified);
      };
    }

clean : {S : Type 0} (secret : List ℕ) (form : Form S) (v : View) (is_wanted : S → Bool) (Wanted : S → Type 0) → Tells is_wanted Wanted
    → (earlier : List ℕ) (items : List (SignedBy S))
    → Fresh earlier (signers items) → AreSigned S secret form v Wanted items → fault_behind v (item_fault secret form is_wanted) earlier items ≡ None
clean secret form v is_wanted Wanted tells earlier [] fresh signed = refl
clean {S} secret form v is_wanted Wanted tells earlier (item ∷ items) fresh signed =
    let rest = fault_behind v (item_fault secret form is_wanted) (earlier ++ item.signer ∷ []) items in
    let others : AreSigned S secret form v Wanted items = record {
      members = signed.members.1;
      distinct = signed.distinct.1;
      stated = signed.stated.1;
      verified = signed.verified.1;
    } in
    let more = clean secret form v is_wanted Wanted tells (earlier ++ item.signer ∷ []) items
    (fresh_more earlier item.signer (signers items) fresh.1 signed.distinct.0) others in
    else_from (signer_fault v earlier item.signer) (or_else (item_fault secret form is_wanted item) rest) (signer_from v earlier item.signer signed.members.0 fresh.0)
    (else_from (item_fault secret form is_wanted item) rest
    (item_from secret form is_wanted item ((tells item.statement).1 signed.stated.0) signed.verified.0) more)

-- ---- all statements

enough_parts : (q n : ℕ) (t : Bool) → nat_le q n ≡ t → (if nat_le q n then None else Some TooFew) ≡ None → q ≤ n
enough_parts q n true is none = grind (arith, common_steps)
enough_parts q n false is none = let few : Some TooFew ≡ None = rw is at none in absurd (cc)

enough_test : (q n : ℕ) → q ≤ n → nat_le q n ≡ true
enough_test q n enough = grind (arith, common_steps)

pub signed-exact : {S : Type 0} (secret : List ℕ) (form : Form S) (v : View) (is_wanted : S → Bool) (Wanted : S → Type 0) → Tells is_wanted Wanted
    → (enough n : ℕ) (items : List (SignedBy S))
    → (first_fault v (item_fault secret form is_wanted) (nat_le enough n) items ≡ None) ↔ (AreSigned S secret form v Wanted items × (enough ≤ n))
unfolding first_fault
signed-exact {S} secret form v is_wanted Wanted tells enough n items = (from, to)
  where
    from : or_else (fault_behind v (item_fault secret form is_wanted) [] items) (if nat_le enough n then None else Some TooFew) ≡ None
        → AreSigned S secret form v Wanted items × (enough ≤ n)
    from is =
        let parts = else_parts (fault_behind v (item_fault secret form is_wanted) [] items) (if nat_le enough n then None else Some TooFew) is in
        ((behind secret form v is_wanted Wanted tells [] items parts.0).signed, enough_parts enough n (nat_le enough n) refl parts.1)

    to : AreSigned S secret form v Wanted items × (enough ≤ n)
        → or_else (fault_behind v (item_fault secret form is_wanted) [] items) (if nat_le enough n then None else Some TooFew) ≡ None
    to cert =
        else_from (fault_behind v (item_fault secret form is_wanted) [] items) (if nat_le enough n then None else Some TooFew)
        (clean secret form v is_wanted Wanted tells [] items (fresh_first (signers items)) cert.0)
        (rw (enough_test enough n cert.1) refl)

-- a check passes exactly where no fault is there
pub passed-exact : (found : Option CertFault) (Holds : Type 0) (answer : Result (Unit {0}) CertFault) → (found ≡ None) ↔ Holds
    → answer ≡ passed found → (answer ≡ Ok tt) ↔ Holds
passed-exact found Holds answer exact is = (
  (λ ok. exact.0 (passed_ok found (sym ok ∙ is))),
  (λ holds. is ∙ ap passed (exact.1 holds)),
)
