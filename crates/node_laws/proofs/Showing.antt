-- The ACCEPTs of a decision that others showed make a certificate, and so do those of the first quorum among them.
use Rattle.std.proofs.Common.{Bool, List, Option, Some, ap, arith, cond, filter, length, refl, subst, sym, true, false, ℕ, [], ◌∷◌, ◌≡◌, ◌≤◌, ◌==◌, ◌||◌, ◌++◌, inl, inr}
use Rattle.std.proofs.lemmas.List.{length-take-le}
use Rattle.std.specs.List.{flat_map, list_any}
use Rattle.std.specs.Prelude.{find, is_some, map}
use Rattle.certificates.specs.Certificates.{AreSigned, IsCertificate, signers}
use Rattle.replica_rules.specs.Seals.{digest_of, is_verified}
use Rattle.agreement_laws.specs.Certificates.{IsDrawn}
use Rattle.agreement_laws.specs.Statements.{Statement}
use Rattle.agreement_laws.specs.Statements as says
use Rattle.agreement_laws.proofs.Groups.{is_one, signed_listed}
use Rattle.agreement_laws.proofs.Lists.{among_flat, among_left, among_map, each_among, each_from, each_take}
use Rattle.smart_base.specs.Lists.{Distinct, Each}
use Rattle.smart_base.specs.Views.{View, first_quorum, is_member, is_view, quorum, weight_of}
use Rattle.smart_base.proofs.ViewFacts.{each-weaken}
use Rattle.smart_statements.specs.Forms.{SignedBy}
use Rattle.smart_statements.specs.Kinds.{ballots}
use Rattle.smart_statements.specs.declared.statement.Ballot.{Ballot}
use Rattle.smart_messages.specs.declared.message.Message.TheVariants as changes
use Rattle.transfer_form.specs.declared.transfer.ProvenBatch.{ProvenBatch}
use Rattle.regency_sync.proofs.Lists.{filter_alike}
use Rattle.vote_book.specs.Books.{Among}
use Rattle.node_rules.specs.Rules.{first_votes, has_signed}
use Rattle.node_laws.proofs.Certified.{rising_distinct, rising_filter, rising_take, signers_all, view_rising}
use Rattle.node_laws.proofs.Lists.{each_filter_map, each_passes, found}
use Rattle.node_laws.proofs.Stated.{batch_asked, covers, may_stand}
use Rattle.node_laws.specs.Sound.{AreAsked, IsShownIn, IsStated}
use Rattle.std.proofs.lemmas.Bool.{eqb-true}

-- where one passes, one is found
any_found : {A : Type 0} (p : A → Bool) (xs : List A) → list_any p xs ≡ true → is_some (find p xs) ≡ true
any_found p [] is = absurd (cc)
any_found p (x ∷ xs) is = by (p x) is (λ later. any_found p xs later)
  where
    by : (t : Bool) → (t || list_any p xs) ≡ true → (list_any p xs ≡ true → is_some (find p xs) ≡ true) → is_some (cond t (Some x) (find p xs)) ≡ true
    by true is rest = refl
    by false is rest = rest is

-- who has signed is one of the signers
signed_one : (votes : List (SignedBy Ballot)) (member : ℕ) → is_one (signers votes) member ≡ has_signed votes member
signed_one [] member = refl
signed_one (b ∷ bs) member = ap (λ (t : Bool). (b.signer == member) || t) (signed_one bs member)

pub first_certificate : (secret : List ℕ) (view : View) (wanted : Ballot) (votes : List (SignedBy Ballot)) → is_view view ≡ true → IsCertificate secret view wanted votes
    → IsCertificate secret view wanted (first_votes view votes)
first_certificate secret view wanted votes viewed cert = (signed, weigh)
  where
    p : ℕ → Bool
    p = has_signed votes

    f : ℕ → Option (SignedBy Ballot)
    f = λ member. find (λ (b : SignedBy Ballot). b.signer == member) votes

    named : List ℕ
    named = first_quorum view p

    chosen : List (SignedBy Ballot)
    chosen = first_votes view votes

    there : (m : ℕ) (b : SignedBy Ballot) → f m ≡ Some b → Among b votes
    there m b is = (found (λ (x : SignedBy Ballot). x.signer == m) votes b is).there

    all_some : Each (λ m. is_some (f m) ≡ true) named
    all_some =
        each_take (λ m. is_some (f m) ≡ true) (quorum view) (filter p view.members)
        (each-weaken (λ m. p m ≡ true) (λ m. is_some (f m) ≡ true) (λ m has. any_found (λ (x : SignedBy Ballot). x.signer == m) votes has) (filter p view.members) (each_passes p view.members))

    own : signers chosen ≡ named
    own = signers_all f named all_some (λ m b is. eqb-true b.signer m (found (λ (x : SignedBy Ballot). x.signer == m) votes b is).passes)

    signed : AreSigned Ballot secret ballots view (λ b. b ≡ wanted) chosen
    signed = record {
      members = each_filter_map (λ (b : SignedBy Ballot). is_member view b.signer ≡ true) f named (λ m b is. each_among (λ (x : SignedBy Ballot). is_member view x.signer ≡ true) votes b cert.0.members (there m b is));
      distinct = subst Distinct (sym own) (rising_distinct 0 named (rising_take (quorum view) 0 (filter p view.members) (rising_filter p 0 view.members (view_rising view viewed))));
      stated = each_filter_map (λ (b : SignedBy Ballot). b.statement ≡ wanted) f named (λ m b is. each_among (λ (x : SignedBy Ballot). x.statement ≡ wanted) votes b cert.0.stated (there m b is));
      verified = each_filter_map (λ (b : SignedBy Ballot). is_verified ballots secret b ≡ true) f named
          (λ m b is. each_among (λ (x : SignedBy Ballot). is_verified ballots secret x ≡ true) votes b cert.0.verified (there m b is));
    }

    weigh : quorum view ≤ weight_of view (signers chosen)
    weigh =
        let all = signed_listed Ballot secret ballots view (λ b. b ≡ wanted) votes cert.0 in
        let alike : length (filter (is_one (signers votes)) view.members) ≡ length (filter p view.members) =
        ap (λ (ms : List ℕ). length ms) (filter_alike (is_one (signers votes)) p (λ m. signed_one votes m) view.members) in
        let enough = cert.1 in
        let count : length named ≡ quorum view = length-take-le (quorum view) (filter p view.members) (omega (arith, all, alike, enough)) in
        let same : length (signers chosen) ≡ length named = ap (λ (ms : List ℕ). length ms) own in
        omega (arith, count, same)

-- each of them has been stated
pub first_drawn : (secret : List ℕ) (stated : List Statement) (view : View) (wanted : Ballot) (votes : List (SignedBy Ballot)) → is_view view ≡ true → IsCertificate secret view wanted votes
    → Each (λ b. Among (says.Voted b) stated) votes → IsDrawn secret view stated wanted (first_votes view votes)
first_drawn secret stated view wanted votes viewed cert all = record {
  holds = first_certificate secret view wanted votes viewed cert;
  drawn = each_filter_map (λ b. Among (says.Voted b) stated) (λ member. find (λ (b : SignedBy Ballot). b.signer == member) votes) (first_quorum view (has_signed votes))
      (λ m b is. each_among (λ x. Among (says.Voted x) stated) votes b all (found (λ (x : SignedBy Ballot). x.signer == m) votes b is).there);
}

-- the ACCEPTs of a decision that has been stated have been stated, if they verify
pub shown_stated : (secret : List ℕ) (stated : List Statement) (d : ProvenBatch) → IsStated secret stated (changes.Decision d) → Each (λ b. is_verified ballots secret b ≡ true) d.accepts
    → Each (λ b. Among (says.Voted b) stated) d.accepts
shown_stated secret stated d was ok =
    each_from (λ b. Among (says.Voted b) stated) d.accepts
    (λ b there.
    covers secret stated (changes.Decision d) was (says.Voted b)
    (among_flat says.within (map says.Voted d.accepts ++ map says.Asked d.batch) (says.Voted b) (says.Voted b)
    (among_left (says.Voted b) (map says.Voted d.accepts) (map says.Asked d.batch) (among_map says.Voted d.accepts b there)) (inl refl))
    (each_among (λ x. is_verified ballots secret x ≡ true) d.accepts b ok there))

-- and so have the requests of its batch, if that may stand at its place
pub shown_asked : (secret : List ℕ) (stated : List Statement) (view : View) (d : ProvenBatch) → IsStated secret stated (changes.Decision d) → IsShownIn secret view d → AreAsked secret stated d.batch
shown_asked secret stated view d was is =
    batch_asked secret stated [] d.batch
    (λ s there ok. covers secret stated (changes.Decision d) was s (behind d.accepts s there) ok)
    (may_stand secret d.place (digest_of d.batch) d.batch is.batch).tags
  where
    behind : (votes : List (SignedBy Ballot)) (s : Statement) → Among s (flat_map says.within (map says.Asked d.batch)) → Among s (flat_map says.within (map says.Voted votes ++ map says.Asked d.batch))
    behind [] s there = there
    behind (b ∷ bs) s there = inr (behind bs s there)
