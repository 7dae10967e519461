-- Four members, one of which votes for two digests, meet what the laws ask, and decide in two regencies.
use Rattle.std.proofs.Common.{◌≡◌, inl, inr, ℕ, nat_lt, true, false, List, [], ◌∷◌, ◌++◌, map, zero, suc, Option, None, Some, refl, sym, subst, ◌∙◌, arith}
use Rattle.std.specs.Prelude.{slice_get}
use Rattle.std.specs.List.{flat_map}
use Rattle.smart_keys.proofs.Tags.{is_tag-tag_of}
use Rattle.smart_base.specs.Lists.{Each}
use Rattle.smart_base.specs.Views.{is_view}
use Rattle.smart_statements.specs.Forms.{Form, party_of}
use Rattle.smart_base.specs.declared.party.Party.TheVariants.{Member}
use Rattle.smart_statements.specs.Kinds.{ballots}
use Rattle.smart_statements.specs.Batches.{Batch}
use Rattle.smart_statements.specs.Reports.{reports}
use Rattle.smart_statements.specs.declared.statement.VoteKind.{VoteKind}
use Rattle.smart_statements.specs.declared.statement.VoteKind.TheVariants.{Write, Accept}
use Rattle.smart_statements.specs.declared.statement.Ballot.{Ballot}
use Rattle.smart_messages.specs.declared.message.Message.{Message}
use Rattle.certificates.specs.Certificates.{is_verified, IsCertificate}
use Rattle.certificates.specs.Collects.{slot_of, LockHolds}
use Rattle.regency_sync.specs.Choices.{choice}
use Rattle.vote_book.specs.declared.entry.LogEntry.{LogEntry}
use Rattle.vote_book.specs.Books.{Among}
use Rattle.agreement_laws.specs.Statements.{Statement, Asked, Voted, Reported, signer_of, verifies, within, said, statements}
use Rattle.agreement_laws.specs.Certificates.{IsWritten, IsDecision, IsChosen, IsBacked}
use Rattle.agreement_laws.specs.Law.{IsCorrect, FewFaulty, Witnessed}
use Rattle.agreement_laws.specs.Diaries.{IsShown}
use Rattle.agreement_laws.specs.Example.{four, is_fourth, tagged, vote, votes, first_voters, later_voters, lock_of, report, collect, voting, reporting, first_messages, changing_messages, later_messages, sent, all_stated, opened, wrote, accept_entry, accepted, first_entries, later_entries, promised, start, diary}
use Rattle.agreement_laws.proofs.Closed.{closed}
use Rattle.agreement_laws.proofs.ExampleBooks.{diary_lawful}
use Rattle.agreement_laws.proofs.Lists.{either, among_flat, among_filter, among_filtered, within_one, each_among, each_append}

pub is_group : is_view four ≡ true
unfolding is_view
is_group = refl

few : FewFaulty four is_fourth
few = record { room = omega arith; few = omega arith }

-- ---- what is stated

verified : {S : Type 0} (secret : List ℕ) (form : Form S) (member : ℕ) (s : S) → is_verified secret form (tagged form secret member s) ≡ true
verified secret form member s = is_tag-tag_of secret (party_of form.kind member) (form.spell s)

-- what stands at an index is there
at : {A : Type 0} (xs : List A) (i : ℕ) (x : A) → slice_get xs i ≡ Some x → Among x xs
at [] i x is = absurd (cc)
at (y ∷ ys) zero x is = let same : y ≡ x = cc in inl (sym same)
at (y ∷ ys) (suc i) x is = inr (at ys i x is)

-- what a message says and its signer has signed has been stated
stated_by : (secret digest other : List ℕ) (batch : Batch) (i : ℕ) (m : Message) (statement : Statement) → slice_get (sent secret digest other batch) i ≡ Some m
    → Among statement (flat_map within (said m)) → verifies secret statement ≡ true → Among statement (all_stated secret digest other batch)
stated_by secret digest other batch i m statement there inside is =
    among_flat (statements secret) (sent secret digest other batch) m statement (at (sent secret digest other batch) i m there)
    (among_filter (verifies secret) (flat_map within (said m)) statement inside is)

vote_stated : (secret digest other : List ℕ) (batch : Batch) (i regency : ℕ) (kind : VoteKind) (named : List ℕ) (member : ℕ)
    → slice_get (sent secret digest other batch) i ≡ Some (voting secret regency kind named member) → Among (Voted (vote secret regency kind named member)) (all_stated secret digest other batch)
vote_stated secret digest other batch i regency kind named member there =
    stated_by secret digest other batch i (voting secret regency kind named member) (Voted (vote secret regency kind named member)) there (inl refl)
    (verified secret ballots member (record { kind = kind; slot = slot_of four 1 regency; digest = named }))

report_stated : (secret digest other : List ℕ) (batch : Batch) (i : ℕ) (locked : Option Batch) (member : ℕ)
    → slice_get (sent secret digest other batch) i ≡ Some (reporting secret digest locked member) → Among (Reported (report secret digest member)) (all_stated secret digest other batch)
report_stated secret digest other batch i locked member there =
    stated_by secret digest other batch i (reporting secret digest locked member) (Reported (report secret digest member)) there (inl refl)
    (verified secret reports member (report secret digest member).statement)

-- ---- the certificates

vote_verified : (secret : List ℕ) (regency : ℕ) (kind : VoteKind) (digest : List ℕ) (member : ℕ) → is_verified secret ballots (vote secret regency kind digest member) ≡ true
vote_verified secret regency kind digest member = verified secret ballots member (record { kind = kind; slot = slot_of four 1 regency; digest = digest })

abbrev ballot_of : ℕ → VoteKind → List ℕ → Ballot
ballot_of regency kind digest = record { kind = kind; slot = slot_of four 1 regency; digest = digest }

first_certified : (secret : List ℕ) (kind : VoteKind) (digest : List ℕ) → IsCertificate secret four (ballot_of 0 kind digest) (votes secret 0 kind digest first_voters)
first_certified secret kind digest = (
  record {
    members = (refl, (refl, (refl, tt)));
    distinct = (refl, (refl, (refl, tt)));
    stated = (refl, (refl, (refl, tt)));
    verified = (vote_verified secret 0 kind digest 1, (vote_verified secret 0 kind digest 2, (vote_verified secret 0 kind digest 4, tt)));
  },
  omega arith,
)

later_certified : (secret : List ℕ) (kind : VoteKind) (digest : List ℕ) → IsCertificate secret four (ballot_of 1 kind digest) (votes secret 1 kind digest later_voters)
later_certified secret kind digest = (
  record {
    members = (refl, (refl, (refl, tt)));
    distinct = (refl, (refl, (refl, tt)));
    stated = (refl, (refl, (refl, tt)));
    verified = (vote_verified secret 1 kind digest 1, (vote_verified secret 1 kind digest 2, (vote_verified secret 1 kind digest 3, tt)));
  },
  omega arith,
)

module _ (secret digest other : List ℕ) (batch : Batch) where
  abbrev stated : List Statement
  stated = all_stated secret digest other batch

  first_written : IsWritten secret four stated 1 0 digest (votes secret 0 Write digest first_voters)
  first_written = record {
    holds = first_certified secret Write digest;
    drawn = (
      vote_stated secret digest other batch 1 0 Write digest 1 refl,
      (vote_stated secret digest other batch 2 0 Write digest 2 refl, (vote_stated secret digest other batch 3 0 Write digest 4 refl, tt)),
    );
  }

  pub first_decided : IsDecision secret four stated 1 0 digest (votes secret 0 Accept digest first_voters)
  first_decided = record {
    holds = first_certified secret Accept digest;
    drawn = (
      vote_stated secret digest other batch 5 0 Accept digest 1 refl,
      (vote_stated secret digest other batch 6 0 Accept digest 2 refl, (vote_stated secret digest other batch 7 0 Accept digest 4 refl, tt)),
    );
  }

  later_written : IsWritten secret four stated 1 1 digest (votes secret 1 Write digest later_voters)
  later_written = record {
    holds = later_certified secret Write digest;
    drawn = (
      vote_stated secret digest other batch 17 1 Write digest 1 refl,
      (vote_stated secret digest other batch 18 1 Write digest 2 refl, (vote_stated secret digest other batch 19 1 Write digest 3 refl, tt)),
    );
  }

  pub later_decided : IsDecision secret four stated 1 1 digest (votes secret 1 Accept digest later_voters)
  later_decided = record {
    holds = later_certified secret Accept digest;
    drawn = (
      vote_stated secret digest other batch 20 1 Accept digest 1 refl,
      (vote_stated secret digest other batch 21 1 Accept digest 2 refl, (vote_stated secret digest other batch 22 1 Accept digest 3 refl, tt)),
    );
  }

  -- the fourth member accepts two digests
  pub accepts_two : Among (Voted (vote secret 0 Accept digest 4)) stated × Among (Voted (vote secret 0 Accept other 4)) stated
  accepts_two = (vote_stated secret digest other batch 7 0 Accept digest 4 refl, vote_stated secret digest other batch 8 0 Accept other 4 refl)

  -- ---- the choice

  lock_held : LockHolds secret four 0 1 (record { regency = 0; digest = digest; writes = votes secret 0 Write digest first_voters })
  lock_held = record { place = omega arith; earlier = omega arith; written = first_certified secret Write digest }

  report_verified : (member : ℕ) → is_verified secret reports (report secret digest member) ≡ true
  report_verified member = verified secret reports member (report secret digest member).statement

  chosen : IsChosen secret four stated (start digest)
  unfolding choice
  chosen = record {
    items = collect secret digest;
    collect = record {
      signed = record {
        members = (refl, (refl, (refl, tt)));
        distinct = (refl, (refl, (refl, tt)));
        stated = (
          record { of_view = refl; of_regency = refl; lock = lock_held },
          (record { of_view = refl; of_regency = refl; lock = lock_held }, (record { of_view = refl; of_regency = refl; lock = tt }, tt)),
        );
        verified = (report_verified 1, (report_verified 2, (report_verified 3, tt)));
      };
      enough = omega arith;
    };
    drawn = (
      report_stated secret digest other batch 12 (Some batch) 1 refl,
      (report_stated secret digest other batch 13 (Some batch) 2 refl, (report_stated secret digest other batch 14 None 3 refl, tt)),
    );
    choice_is = refl;
  }

module _ (secret : List ℕ) (digest_of : Batch → List ℕ) (other : List ℕ) (batch : Batch) where
  abbrev digest : List ℕ
  digest = digest_of batch

  -- ---- the diaries rest on what is stated

  abbrev Backed : LogEntry → Type 0
  Backed = IsBacked secret digest_of four (all_stated secret digest other batch)

  later_backed : Each Backed (later_entries secret digest batch)
  later_backed = (
    λ of_view some. chosen secret digest other batch,
    (tt, (λ of_view. later_written secret digest other batch, (λ of_view. later_decided secret digest other batch, tt))),
  )

  diary_backed : (member : ℕ) → Each Backed (diary secret digest batch member)
  diary_backed member =
      either (Each Backed) (nat_lt member 3) (first_entries secret digest batch member ++ promised ∷ later_entries secret digest batch)
      (opened member ∷ promised ∷ later_entries secret digest batch)
      (tt, (tt, (λ of_view. first_written secret digest other batch, (tt, later_backed)))) (tt, (tt, later_backed))

  -- ---- the diaries show what is stated

  abbrev IsFine : Statement → Type 0
  IsFine statement =
      (member : ℕ) → IsCorrect four is_fourth member → signer_of statement ≡ Member member → IsShown digest_of (diary secret digest batch member) statement

  -- what a member's diary shows of its own
  by : (signer : ℕ) (statement : Statement) → signer_of statement ≡ Member signer → IsShown digest_of (diary secret digest batch signer) statement → IsFine statement
  by signer statement own shown member correct same =
      let parties : Member signer ≡ Member member = sym own ∙ same in
      let is : signer ≡ member = cc in
      subst (λ m. IsShown digest_of (diary secret digest batch m) statement) is shown

  -- the fourth need not show anything
  by_fourth : (statement : Statement) → signer_of statement ≡ Member 4 → IsFine statement
  by_fourth statement own member correct same =
      let parties : Member 4 ≡ Member member = sym own ∙ same in
      let is : 4 ≡ member = cc in
      let none : is_fourth 4 ≡ false = subst (λ m. is_fourth m ≡ false) (sym is) correct.correct in
      absurd (cc)

  requests_fine : (requests : Batch) → Each IsFine (flat_map within (map Asked requests))
  requests_fine [] = tt
  requests_fine (q ∷ qs) = (λ member correct same. tt, requests_fine qs)

  -- what the first two voted in the first regency
  first_wrote : (member : ℕ) → Among (wrote 0 digest) (diary secret digest batch member) → IsFine (Voted (vote secret 0 Write digest member))
  first_wrote member there = by member (Voted (vote secret 0 Write digest member)) refl there

  first_accepted : (member : ℕ) → Among (accepted secret 0 digest first_voters batch) (diary secret digest batch member) → IsFine (Voted (vote secret 0 Accept digest member))
  first_accepted member there =
      by member (Voted (vote secret 0 Accept digest member)) refl
      (record { entry = accept_entry secret 0 digest first_voters batch; there = there; slot_is = refl; digest_is = refl })

  -- and what all but the fourth did in the next one
  later_wrote : (member : ℕ) → Among (wrote 1 digest) (diary secret digest batch member) → IsFine (Voted (vote secret 1 Write digest member))
  later_wrote member there = by member (Voted (vote secret 1 Write digest member)) refl there

  later_accepted : (member : ℕ) → Among (accepted secret 1 digest later_voters batch) (diary secret digest batch member) → IsFine (Voted (vote secret 1 Accept digest member))
  later_accepted member there =
      by member (Voted (vote secret 1 Accept digest member)) refl
      (record { entry = accept_entry secret 1 digest later_voters batch; there = there; slot_is = refl; digest_is = refl })

  -- the fourth's votes
  fourth_voted : (kind : VoteKind) (named : List ℕ) → IsFine (Voted (vote secret 0 kind named 4))
  fourth_voted kind named = by_fourth (Voted (vote secret 0 kind named 4)) refl

  wrote_by_first : IsFine (Voted (vote secret 0 Write digest 1))
  wrote_by_first = first_wrote 1 (inr (inl refl))

  wrote_by_second : IsFine (Voted (vote secret 0 Write digest 2))
  wrote_by_second = first_wrote 2 (inr (inl refl))

  -- a message is fine where all that stands in it is
  abbrev AreFine : Message → Type 0
  AreFine m = Each IsFine (flat_map within (said m))

  first_fine : Each AreFine (first_messages secret digest other batch)
  first_fine = (
    (λ member correct same. tt, requests_fine batch),
    (
      (wrote_by_first, tt),
      (
        (wrote_by_second, tt),
        (
          (fourth_voted Write digest, tt),
          (
            (fourth_voted Write other, tt),
            (
              (first_accepted 1 (inr (inr (inl refl))), tt),
              ((first_accepted 2 (inr (inr (inl refl))), tt), ((fourth_voted Accept digest, tt), ((fourth_voted Accept other, tt), tt))),
            ),
          ),
        ),
      ),
    ),
  )

  -- ---- the reports

  first_reported : (member : ℕ) → diary secret digest batch member ≡ first_entries secret digest batch member ++ promised ∷ later_entries secret digest batch
      → lock_of secret digest member ≡ lock_of secret digest 1 → IsFine (Reported (report secret digest member))
  first_reported member split lock =
      by member (Reported (report secret digest member)) refl
      (record {
        before = first_entries secret digest batch member;
        after = later_entries secret digest batch;
        split = split;
        reports = record { last = refl; evidence = refl; lock = lock };
      })

  third_reported : IsFine (Reported (report secret digest 3))
  third_reported =
      by 3 (Reported (report secret digest 3)) refl
      (record { before = opened 3 ∷ []; after = later_entries secret digest batch; split = refl; reports = record { last = refl; evidence = refl; lock = refl } })

  by_first : IsFine (Reported (report secret digest 1))
  by_first = first_reported 1 refl refl

  by_second : IsFine (Reported (report secret digest 2))
  by_second = first_reported 2 refl refl

  changing_fine : Each AreFine (changing_messages secret digest batch)
  changing_fine = (
    (λ member correct same. tt, tt),
    (
      (λ member correct same. tt, tt),
      (
        (λ member correct same. tt, tt),
        (
          (by_first, (wrote_by_first, (wrote_by_second, (fourth_voted Write digest, requests_fine batch)))),
          (
            (by_second, (wrote_by_first, (wrote_by_second, (fourth_voted Write digest, requests_fine batch)))),
            (
              (third_reported, tt),
              (
                (
                  λ member correct same. tt,
                  (
                    by_first,
                    (
                      wrote_by_first,
                      (
                        wrote_by_second,
                        (
                          fourth_voted Write digest,
                          (by_second, (wrote_by_first, (wrote_by_second, (fourth_voted Write digest, (third_reported, tt))))),
                        ),
                      ),
                    ),
                  ),
                ),
                tt,
              ),
            ),
          ),
        ),
      ),
    ),
  )

  later_fine : Each AreFine (later_messages secret digest batch)
  later_fine = (
    (λ member correct same. tt, requests_fine batch),
    (
      (later_wrote 1 (at (diary secret digest batch 1) 5 (wrote 1 digest) refl), tt),
      (
        (later_wrote 2 (at (diary secret digest batch 2) 5 (wrote 1 digest) refl), tt),
        (
          (later_wrote 3 (at (diary secret digest batch 3) 3 (wrote 1 digest) refl), tt),
          (
            (later_accepted 1 (at (diary secret digest batch 1) 6 (accepted secret 1 digest later_voters batch) refl), tt),
            (
              (later_accepted 2 (at (diary secret digest batch 2) 6 (accepted secret 1 digest later_voters batch) refl), tt),
              ((later_accepted 3 (at (diary secret digest batch 3) 4 (accepted secret 1 digest later_voters batch) refl), tt), tt),
            ),
          ),
        ),
      ),
    ),
  )

  all_fine : Each AreFine (sent secret digest other batch)
  all_fine =
      each_append AreFine (first_messages secret digest other batch) (changing_messages secret digest batch ++ later_messages secret digest batch) first_fine
      (each_append AreFine (changing_messages secret digest batch) (later_messages secret digest batch) changing_fine later_fine)

  -- ---- all together

  stated_fine : (statement : Statement) → Among statement (all_stated secret digest other batch) → IsFine statement
  stated_fine statement there =
      let found = within_one (statements secret) (sent secret digest other batch) statement there in
      let all = flat_map within (said found.value) in
      each_among IsFine all statement (each_among AreFine (sent secret digest other batch) found.value all_fine found.there)
      (among_filtered (verifies secret) all statement found.within)

  pub witnessed : Witnessed secret digest_of four is_fourth (diary secret digest batch) (all_stated secret digest other batch)
  witnessed = record {
    few = few;
    lawful = λ member correct. diary_lawful secret digest batch member;
    backed = λ member correct. diary_backed member;
    shown = λ member correct statement there signed. stated_fine statement there member correct signed;
    closed = closed secret (sent secret digest other batch);
  }
