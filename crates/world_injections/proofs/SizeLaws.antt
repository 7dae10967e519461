-- How many bytes an injected report has, and an injected beginning of a regency.
use Rattle.std.proofs.Common.{◌≡◌, ℕ, ◌+◌, ◌^◌, Bool, true, false, ◌&&◌, nat_lt, nat_le, List, ◌++◌, length, Option, Some, None, is_some, refl, sym, ap, ◌∙◌, length-append, arith}
use Rattle.std.specs.Prelude.{if◌then◌else◌}
use Rattle.std.specs.Int.{w16, w32}
use Rattle.std.specs.List.{flat_map}
use Rattle.std.specs.Option.{option_and_then, option_map}
use Rattle.smart_base.specs.Spelling.{u8, u16, u32, u64, behind}
use Rattle.smart_keys.specs.Keys.{tag_of}
use Rattle.smart_keys.proofs.Digests.{digest-length}
use Rattle.smart_keys.proofs.Tags.{tag_of-length}
use Rattle.smart_statements.specs.Forms.{Form, SignedBy, party_of}
use Rattle.smart_statements.specs.Kinds.{ballots}
use Rattle.smart_statements.specs.Batches.{Batch, batch_text}
use Rattle.smart_messages.specs.Messages.{spelling}
use Rattle.smart_statements.specs.Spelling as spells
use Rattle.smart_statements.specs.SignedLists.{optional, listed}
use Rattle.smart_statements.specs.Reports.{lock_certificate, marks, reports, report, evidence as shown}
use Rattle.smart_messages.specs.Regencies.{syncs, sync}
use Rattle.smart_statements.specs.declared.report.Evidence.TheVariants as evidence
use Rattle.smart_statements.specs.declared.report.LockCertificate.{LockCertificate}
use Rattle.smart_statements.specs.declared.report.Report.{Report}
use Rattle.smart_messages.specs.declared.regency.Reported.{Reported}
use Rattle.smart_messages.specs.declared.regency.Sync.{Sync}
use Rattle.smart_messages.specs.declared.message.Message.TheVariants as changes
use Rattle.replica_rules.specs.Seals.{signed, digest_of}
use Rattle.smart_base.specs.declared.limits.TheConstants.{MARKS}
use Rattle.smart_statements.specs.declared.report.Mark.{Mark}
use Rattle.smart_statements.specs.declared.statement.Ballot.{Ballot}
use Rattle.transfer_form.specs.declared.transfer.ProvenBatch.{ProvenBatch}
use Rattle.transfer_form.specs.declared.transfer.StateOffer.{StateOffer}
use Rattle.world_rules.specs.declared.message.Sent.{Sent}
use Rattle.world_rules.specs.Secrets.{group_secret}
use Rattle.world_rules.specs.Injections.{content_at, decision_of, Evident, view_of_first, early_accepts, evident_by, evident_at, Locked, report_bytes, report_by, sync_bytes, offer_bytes}
use Rattle.world_injections.specs.Sizes.{evident_len, locked_len, fits_report, fits_offer, fits_marks, fits_sync, fits_numbers}

-- what a signature comes to
signed-length : {A : Type 0} (form : Form A) (signer : ℕ) (s : A) → length (spells.signed form (signed form group_secret signer s)) ≡ 41 + length (form.spell s)
signed-length form signer s =
    let text = form.spell s in
    let tag = tag_of group_secret (party_of form.kind signer) text in
    let short : length tag ≡ 32 = tag_of-length group_secret (party_of form.kind signer) text in
    let one = length-append (u8 form.kind) (u16 signer ++ (behind w32 text ++ behind w16 tag)) in
    let two = length-append (u16 signer) (behind w32 text ++ behind w16 tag) in
    let three = length-append (behind w32 text) (behind w16 tag) in
    let four = length-append (u32 (length text)) text in
    let five = length-append (u16 (length tag)) tag in
    omega (arith, one, two, three, four, five, short)

report-length : (view regency : ℕ) (x : Evident) (l : Locked)
    → length (report (record { view = view; regency = regency; last = x.last; evidence = x.evidence; lock = l.lock })) ≡ 17 + (length (shown x.evidence) + length (optional lock_certificate l.lock))
report-length view regency x l =
    let e = optional lock_certificate l.lock in
    let one = length-append (u8 5) (u32 view ++ (u32 regency ++ (u64 x.last ++ (shown x.evidence ++ e)))) in
    let two = length-append (u32 view) (u32 regency ++ (u64 x.last ++ (shown x.evidence ++ e))) in
    let three = length-append (u32 regency) (u64 x.last ++ (shown x.evidence ++ e)) in
    let four = length-append (u64 x.last) (shown x.evidence ++ e) in
    let five = length-append (shown x.evidence) e in
    omega (arith, one, two, three, four, five)

reported-length : (r : Reported) → length (spelling (changes.StopData r)) ≡ 1 + (length (spells.signed reports r.head) + length (optional batch_text r.batch))
unfolding spelling
reported-length r =
    omega (arith, length-append (u8 5) (spells.signed reports r.head ++ optional batch_text r.batch), length-append (spells.signed reports r.head) (optional batch_text r.batch))

sync-length : (view regency : ℕ) (rs : List (SignedBy Report))
    → length (sync (record { view = view; regency = regency; collect = rs })) ≡ 11 + length (flat_map (spells.signed reports) rs)
sync-length view regency rs =
    let e = listed reports rs in
    let one = length-append (u8 6) (u32 view ++ (u32 regency ++ e)) in
    let two = length-append (u32 view) (u32 regency ++ e) in
    let three = length-append (u32 regency) e in
    let four = length-append (u16 (length rs)) (flat_map (spells.signed reports) rs) in
    omega (arith, one, two, three, four)

begun-length : (s : SignedBy Sync) → length (spelling (changes.Sync s)) ≡ 1 + length (spells.signed syncs s)
unfolding spelling
begun-length s = length-append (u8 6) (spells.signed syncs s)

offer-length : (o : StateOffer) → length (spelling (changes.StateOffer o)) ≡ 17 + length (flat_map (spells.signed marks) o.marks)
unfolding spelling
offer-length o =
    let list = flat_map (spells.signed marks) o.marks in
    let one = length-append (u8 11) (u16 o.member ++ (u64 o.place ++ (u32 o.size ++ (u16 (length o.marks) ++ list)))) in
    let two = length-append (u16 o.member) (u64 o.place ++ (u32 o.size ++ (u16 (length o.marks) ++ list))) in
    let three = length-append (u64 o.place) (u32 o.size ++ (u16 (length o.marks) ++ list)) in
    let four = length-append (u32 o.size) (u16 (length o.marks) ++ list) in
    let five = length-append (u16 (length o.marks)) list in
    omega (arith, one, two, three, four, five)

there : (t : Bool) (bytes : List ℕ) → is_some (if t then Some bytes else None) ≡ t
there true bytes = refl
there false bytes = refl

few : (t : Bool) (found : Option (List ℕ)) (b : Bool) → is_some found ≡ b → is_some (if t then found else None) ≡ (t && b)
few true found b is = is
few false found b is = refl

-- a lock that is there
pub lock_length : (l : LockCertificate) → length (optional lock_certificate (Some l)) ≡ 7 + length l.digest + length (flat_map (spells.signed ballots) l.writes)
lock_length l =
    let writes = flat_map (spells.signed ballots) l.writes in
    let one = length-append (u8 1) (u32 l.regency ++ (l.digest ++ (u16 (length l.writes) ++ writes))) in
    let two = length-append (u32 l.regency) (l.digest ++ (u16 (length l.writes) ++ writes)) in
    let three = length-append l.digest (u16 (length l.writes) ++ writes) in
    let four = length-append (u16 (length l.writes)) writes in
    omega (arith, one, two, three, four)

report_some : (signer view regency : ℕ) (x : Evident) (l : Locked) → is_some (report_bytes signer view regency x l) ≡ fits_report (Some x) (Some l)
report_some signer view regency x l =
    let r : Reported = record {
      head = signed reports group_secret signer (record { view = view; regency = regency; last = x.last; evidence = x.evidence; lock = l.lock });
      batch = l.batch;
    } in
    let s = signed-length reports signer (record { view = view; regency = regency; last = x.last; evidence = x.evidence; lock = l.lock }) in
    let size : length (spelling (changes.StopData r)) ≡ 59 + (evident_len x + locked_len l) = omega (arith, reported-length r, s, report-length view regency x l) in
    let bytes = spelling (changes.StopData r) in
    there (nat_le (length bytes) 1048576) bytes ∙ ap (λ n. nat_le n 1048576) size

report_view : (signer view regency : ℕ) (x : Option Evident) (found : Option Locked) → is_some (report_by signer view regency x found) ≡ fits_report x found
report_view signer view regency None found = refl
report_view signer view regency (Some x) None = refl
report_view signer view regency (Some x) (Some l) = report_some signer view regency x l

digest_long : (batch : Batch) → length (digest_of batch) ≡ 32
unfolding digest_of
digest_long batch = digest-length (batch_text batch)

proof_length : (view : ℕ) (digest : List ℕ) (bs : List (SignedBy Ballot)) → length digest ≡ 32
    → length (shown (evidence.Decided (record { view = view; regency = 0; digest = digest; accepts = bs }))) ≡ 43 + length (flat_map (spells.signed ballots) bs)
proof_length view digest bs long =
    let votes = flat_map (spells.signed ballots) bs in
    let one = length-append (u8 1) (u32 view ++ (u32 0 ++ (digest ++ (u16 (length bs) ++ votes)))) in
    let two = length-append (u32 view) (u32 0 ++ (digest ++ (u16 (length bs) ++ votes))) in
    let three = length-append (u32 0) (digest ++ (u16 (length bs) ++ votes)) in
    let four = length-append digest (u16 (length bs) ++ votes) in
    let five = length-append (u16 (length bs)) votes in
    omega (arith, one, two, three, four, five, long)

-- evidence of a decision that is there
pub shown_length : (sent : List Sent) (decision : Option ℕ) (number n : ℕ) (d : ProvenBatch) → decision ≡ Some number → Some d ≡ option_and_then decision_of (content_at sent number)
    → n ≡ length (flat_map (spells.signed ballots) (early_accepts d)) → Some (43 + n) ≡ option_map evident_len (evident_at sent 0 decision)
shown_length sent decision number n d named found is =
    let long = proof_length (view_of_first 0 (early_accepts d)) (digest_of d.batch) (early_accepts d) (digest_long d.batch) in
    ap (λ (k : ℕ). Some (43 + k)) is
    ∙ (ap (λ (k : ℕ). Some k) (sym long)
    ∙ (ap (λ (x : Option ProvenBatch). option_map evident_len (option_map (evident_by 0) x)) found
    ∙ sym (ap (λ (x : Option ℕ). option_map evident_len (evident_at sent 0 x)) named)))

-- the view of evidence changes no length
same_length : (sent : List Sent) (view : ℕ) (d : ProvenBatch) → evident_len (evident_by view d) ≡ evident_len (evident_by 0 d)
same_length sent view d = by (early_accepts d)
  where
    by : (bs : List (SignedBy Ballot)) → length (shown (evidence.Decided (record { view = view_of_first view bs; regency = 0; digest = digest_of d.batch; accepts = bs })))
        ≡ length (shown (evidence.Decided (record { view = view_of_first 0 bs; regency = 0; digest = digest_of d.batch; accepts = bs })))
    by bs = omega arith

same_fits : (sent : List Sent) (view : ℕ) (number : Option ℕ) (found : Option Locked) → fits_report (evident_at sent view number) found ≡ fits_report (evident_at sent 0 number) found
same_fits sent view None found = refl
same_fits sent view (Some number) found = by (option_and_then decision_of (content_at sent number)) found
  where
    by : (d : Option ProvenBatch) (l : Option Locked) → fits_report (option_map (evident_by view) d) l ≡ fits_report (option_map (evident_by 0) d) l
    by None l = refl
    by (Some d) None = refl
    by (Some d) (Some l) = ap (λ n. nat_le (59 + (n + locked_len l)) 1048576) (same_length sent view d)

-- a report that takes over what is there can be injected where it is short enough
pub report_fits : (sent : List Sent) (signer view regency : ℕ) (number : Option ℕ) (found : Option Locked)
    → is_some (report_by signer view regency (evident_at sent view number) found) ≡ fits_report (evident_at sent 0 number) found
report_fits sent signer view regency number found = report_view signer view regency (evident_at sent view number) found ∙ same_fits sent view number found

-- an offer of marks that are there can be injected where they are few and short enough
offer_some : (member place size : ℕ) (found : Option (List (SignedBy Mark))) → is_some (option_and_then (offer_bytes member place size) found) ≡ fits_offer found
offer_some member place size None = refl
offer_some member place size (Some ms) =
    let o : StateOffer = record { member = member; place = place; size = size; marks = ms } in
    let bytes = spelling (changes.StateOffer o) in
    there (nat_le (length bytes) 1048576) bytes ∙ ap (λ n. nat_le n 1048576) (offer-length o)

pub offer_fits : (member place size : ℕ) (numbers : List ℕ) (found : Option (List (SignedBy Mark)))
    → is_some (if nat_le (length numbers) MARKS then option_and_then (offer_bytes member place size) found else None) ≡ fits_marks numbers found
offer_fits member place size numbers found =
    few (nat_le (length numbers) MARKS) (option_and_then (offer_bytes member place size) found) (fits_offer found) (offer_some member place size found)

pub part_fits : (t : Bool) (bytes : List ℕ) → is_some (if t then Some bytes else None) ≡ t
part_fits t bytes = there t bytes

sync_is : (signer view regency : ℕ) (found : Option (List (SignedBy Report))) → is_some (option_and_then (sync_bytes signer view regency) found) ≡ fits_sync found
sync_is signer view regency None = refl
sync_is signer view regency (Some rs) =
    let begins = signed syncs group_secret signer (record { view = view; regency = regency; collect = rs }) in
    let s = signed-length syncs signer (record { view = view; regency = regency; collect = rs }) in
    let size : length (spelling (changes.Sync begins)) ≡ 53 + length (flat_map (spells.signed reports) rs) = omega (arith, begun-length begins, s, sync-length view regency rs) in
    let bytes = spelling (changes.Sync begins) in
    there (nat_le (length bytes) 1048576) bytes ∙ ap (λ n. nat_le n 1048576) size

-- a beginning with reports that are there can be injected where they are few and short enough
pub sync_fits : (signer view regency : ℕ) (numbers : List ℕ) (found : Option (List (SignedBy Report)))
    → is_some (if nat_lt (length numbers) (2 ^ 16) then option_and_then (sync_bytes signer view regency) found else None) ≡ fits_numbers numbers found
sync_fits signer view regency numbers found =
    few (nat_lt (length numbers) (2 ^ 16)) (option_and_then (sync_bytes signer view regency) found) (fits_sync found) (sync_is signer view regency found)
