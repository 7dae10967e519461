-- The claims of what stands in a message are those of its statements.
use Rattle.std.proofs.Common.{◌≡◌, Bool, true, false, cond, List, [], ◌∷◌, ◌++◌, map, filter, refl, ap, sym, ◌∙◌, append_assoc}
use Rattle.std.proofs.lemmas.List.Elements.{filter-append}
use Rattle.smart_messages.specs.declared.message.Sealed.{Sealed}
use Rattle.smart_messages.specs.declared.message.Message.{Message}
use Rattle.agreement_laws.specs.Statements.{Statement, verifies, sealed_of, statements_in}
use Rattle.world_rules.specs.Secrets.{group_secret}
use Rattle.world_rules.specs.Premises.{Claim, claim_of, claims_in, is_from}
use Rattle.world_ledger.specs.Claims.{claims_of, claims_by}
use Rattle.world_ledger.specs.Statements.{is_own}
use Rattle.world_rules.specs.declared.message.Origin.{Origin}
use Rattle.smart_keys.specs.Keys.{is_tag}

-- a statement in front of others
first : (s : Statement) (tagged : Bool) (claims : List Claim) (others : List Statement) → claims ≡ map claim_of others
    → cond tagged (claim_of s ∷ []) [] ++ claims ≡ map claim_of (cond tagged (s ∷ others) others)
first s true claims others same = ap (λ cs. claim_of s ∷ cs) same
first s false claims others same = same

all_are : (xs : List Statement) → claims_by (map sealed_of xs) ≡ map claim_of (filter (verifies group_secret) xs)
all_are [] = refl
all_are (x ∷ xs) = first x (verifies group_secret x) (claims_by (map sealed_of xs)) (filter (verifies group_secret) xs) (all_are xs)

-- those kept of all that stands in a message
pub kept_in : (old new : List Claim) (items given : List Sealed) (m : Message) → given ≡ items → items ≡ map sealed_of (statements_in m) → new ≡ old ++ claims_by given
    → new ≡ old ++ claims_in m
kept_in old new items given m same are kept = kept ∙ ap (λ cs. old ++ cs) (ap claims_by (same ∙ are) ∙ all_are (statements_in m))

-- those kept of one more, and of the rest
pub kept-more : (x : Sealed) (rest all : List Sealed) (old new total : List Claim) → new ≡ old ++ claims_of x → all ≡ x ∷ rest
    → old ++ claims_by all ≡ total → new ++ claims_by rest ≡ total
kept-more x rest all old new total more is so_far =
    let e : old ++ claims_by (x ∷ rest) ≡ total = rw is at so_far in
    rw more (append_assoc old (claims_of x) (claims_by rest) ∙ e)

-- ---- what their sender has signed

-- of what is its sender's, all is kept whose tag verifies
pub own_is : (o : Origin) (s : Sealed) → is_from s.who o ≡ true → is_tag group_secret s.who s.text s.tag ≡ true → filter (is_own o) (claims_of s) ≡ record { signer = s.who; bytes = s.text } ∷ []
own_is o s from tagged = rw (tagged, from) refl

pub untagged_is : (o : Origin) (s : Sealed) → is_tag group_secret s.who s.text s.tag ≡ false → filter (is_own o) (claims_of s) ≡ []
untagged_is o s tagged = rw tagged refl

-- what is another's is not kept
other_by : (o : Origin) (s : Sealed) (tagged : Bool) → is_tag group_secret s.who s.text s.tag ≡ tagged → is_from s.who o ≡ false → filter (is_own o) (claims_of s) ≡ []
other_by o s true tagged from = rw (tagged, from) refl
other_by o s false tagged from = untagged_is o s tagged

pub other_is : (o : Origin) (s : Sealed) → is_from s.who o ≡ false → filter (is_own o) (claims_of s) ≡ []
other_is o s from = other_by o s (is_tag group_secret s.who s.text s.tag) refl from

-- the own ones of one more, and of the rest
pub own-more : (o : Origin) (x : Sealed) (rest all : List Sealed) (old new total : List Claim) → new ≡ old ++ filter (is_own o) (claims_of x) → all ≡ x ∷ rest
    → old ++ filter (is_own o) (claims_by all) ≡ total → new ++ filter (is_own o) (claims_by rest) ≡ total
own-more o x rest all old new total more is so_far =
    let e : old ++ filter (is_own o) (claims_by (x ∷ rest)) ≡ total = rw is at so_far in
    rw more (append_assoc old (filter (is_own o) (claims_of x)) (filter (is_own o) (claims_by rest)) ∙ (ap (λ cs. old ++ cs) (sym (filter-append (is_own o) (claims_of x) (claims_by rest))) ∙ e))

-- the own ones kept of all that stands in a message
pub own_in : (o : Origin) (old new : List Claim) (items given : List Sealed) (m : Message) → given ≡ items → items ≡ map sealed_of (statements_in m)
    → new ≡ old ++ filter (is_own o) (claims_by given) → new ≡ old ++ filter (is_own o) (claims_in m)
own_in o old new items given m same are kept = kept ∙ ap (λ cs. old ++ filter (is_own o) cs) (ap claims_by (same ∙ are) ∙ all_are (statements_in m))

alone_is : (s : Statement) (tagged : Bool) → verifies group_secret s ≡ tagged → claims_of (sealed_of s) ≡ map claim_of (filter (verifies group_secret) (s ∷ []))
alone_is s true tagged = rw tagged refl
alone_is s false tagged = rw tagged refl

-- the same where one statement stands alone
pub own_alone : (o : Origin) (old new : List Claim) (s : Statement) (m : Message) → statements_in m ≡ s ∷ [] → new ≡ old ++ filter (is_own o) (claims_of (sealed_of s))
    → new ≡ old ++ filter (is_own o) (claims_in m)
own_alone o old new s m alone kept =
    kept ∙ ap (λ cs. old ++ filter (is_own o) cs) (alone_is s (verifies group_secret s) refl ∙ sym (ap (λ ss. map claim_of (filter (verifies group_secret) ss)) alone))
