-- How runs end.
use Rattle.std.proofs.Common.{◌≡◌, ◌+◌, ◌++◌, ◌∙◌, ℕ, true, List, [], ◌∷◌, Option, None, Some, is_some, take, refl, ap, sym, subst, append_assoc, inl, inr, arith}
use Rattle.std.proofs.lemmas.List.{append-nil}
use Rattle.std.specs.Io.KnownBytes.{Appends, Consumes, IsAtEnd, Keeps}
use Rattle.faults.specs.Counts.{Rose}
use Rattle.app_count.specs.Counts.{counting, IsSum}
use Rattle.app_count.specs.Replies.{brief_replies as brief_sums}
use Rattle.app_count.specs.Sums.{first_sum, next_sum, valid_sum, restored_sum, short_snapshot as short_sum, one_snapshot as one_sum}
use Rattle.app_kv.specs.Snapshots.{keeping}
use Rattle.app_kv.specs.Replies.{brief_replies as brief_values}
use Rattle.app_kv.specs.Stores.{IsStore}
use Rattle.app_kv.specs.States.{first_store, next_store}
use Rattle.app_kv.specs.Restored.{valid_store, restored_store, short_snapshot as short_store, one_snapshot as one_store}
use Rattle.replica_laws.proofs.Small.{IsBrief, brief_where}
use Rattle.world_rules.specs.Texts.{text_of}
use Rattle.world_rules.specs.declared.line.OutLine.{OutLine}
use Rattle.world_laws.proofs.Snapshots.{IsRestorable, restorable_where}
use Rattle.world_laws.proofs.OneListLaw.{one_list-throughout}
use Rattle.script_play.specs.declared.status.Refusal.{Refusal}
use Rattle.script_play.specs.declared.status.Refusal.TheVariants as refusals
use Rattle.smart_top.specs.declared.reader.Halt.{Halt}
use Rattle.smart_top.specs.declared.reader.Halt.TheVariants as halts
use Rattle.script_play.specs.declared.status.Status.TheVariants as ends
use Rattle.script_play.specs.Apps.{core_courses, node_courses}
use Rattle.script_play.specs.Readings.{Reading, unread, whole_lines, rest_of, script_lines, reading_after, told_after, script_read, end_of, last_told, end_by, refused_end, transcript}
use Rattle.smart_top.specs.Feeds.{text_after, script_after, Closes, HasRefused, HasBroken, HasTold, Within, Halted, GoesOn, halt_end}
use Rattle.smart_top.specs.Runs.{IsLeft, ArePlayed, Ends, WroteAllRead, WroteLines, WroteFront, RunEnd}
use Rattle.script_play.proofs.ReadingLaws.{after-append, told-append, after-refused, told_after-refused, text-append, whole-feed, lines-front, front_of}
use Rattle.script_play.proofs.LongLines.{IsLong, long-read, long-tells, long-more, long-front, lines-behind}
use Rattle.smart_top.proofs.ReadingCores.{core-told-unread, core-refused, core-count}
use Rattle.smart_top.proofs.ReadingPlays.{one_list_holds}
use Rattle.smart_top.proofs.ReadingTells.{tells-read}

-- the whole lines of some bytes are the first lines of an input
pub record Begins (bytes input : List ℕ) : Type 0 where
  pub more : List (List ℕ)
  pub split : script_lines input ≡ whole_lines [] bytes ++ more

-- some bytes begin an input, as far as its lines tell
pub record Starts (bytes input : List ℕ) : Type 0 where
  pub rest : List ℕ
  pub same : script_lines input ≡ script_lines (bytes ++ rest)

-- their whole lines are its first lines
pub begins : (bytes input : List ℕ) → Starts bytes input → Begins bytes input
begins bytes input s = let front = lines-front bytes s.rest in record { more = front.0; split = s.same ∙ front.1 }

-- the replies of both services are brief in each state that they come to
pub sums_are_brief : IsBrief counting
sums_are_brief = brief_where counting IsSum first_sum next_sum valid_sum brief_sums short_sum restored_sum one_sum

values_are_brief : IsBrief keeping
values_are_brief = brief_where keeping IsStore first_store next_store valid_store brief_values short_store restored_store one_store

-- the states of both services come back from their snapshots
pub sums_are_restored : IsRestorable counting
sums_are_restored = restorable_where counting IsSum first_sum next_sum brief_sums restored_sum short_sum valid_sum one_sum

values_are_restored : IsRestorable keeping
values_are_restored = restorable_where keeping IsStore first_store next_store brief_values restored_store short_store valid_store one_store

-- lines that were read are played
pub played : (ls : List (List ℕ)) → ArePlayed ls
played ls =
    record {
      tell = tells-read ls;
      one_list = one_list_holds (λ g is lines. one_list-throughout counting sums_are_brief sums_are_restored g is lines)
          (λ g is lines. one_list-throughout keeping values_are_brief values_are_restored g is lines) ls;
    }

-- the text that cores tell is the text that nodes tell
pub same-text : (bytes : List ℕ) → text_after core_courses bytes ≡ text_after node_courses bytes
same-text bytes = ap text_of (core-told-unread (whole_lines [] bytes))

-- the transcript of an input begins with what its first lines tell
transcript-front : (bytes input : List ℕ) → Begins bytes input → (rest : List ℕ) × (text_of (transcript node_courses input) ≡ text_after node_courses bytes ++ rest)
transcript-front bytes input b =
    let told : List OutLine = told_after node_courses unread (whole_lines [] bytes) in
    let behind : List OutLine = told_after node_courses (script_after node_courses bytes) b.more in
    let last : List OutLine = last_told (script_read node_courses input) (script_read node_courses input).refused in (
      text_of behind ++ text_of last,
      text-append (told_after node_courses unread (script_lines input)) last
          ∙ (ap (λ ls. text_of (told_after node_courses unread ls) ++ text_of last) b.split
          ∙ (ap (λ lines. text_of lines ++ text_of last) (told-append node_courses unread (whole_lines [] bytes) b.more)
          ∙ (ap (λ text. text ++ text_of last) (text-append told behind) ∙ append_assoc (text_of told) (text_of behind) (text_of last)))),
    )

-- a run that told whole lines has written the transcript of the input's first lines
pub told-lines : (left written now : Option (List ℕ)) (bytes input : List ℕ) → Begins bytes input → IsLeft left input
    → HasTold core_courses bytes written now → WroteLines left written now
told-lines left written now bytes input b is_left told =
    record {
      input = input;
      is_left = is_left;
      front = whole_lines [] bytes;
      rest = b.more;
      split = b.split;
      text = subst (λ text. Appends written now text) (same-text bytes) told.text;
      played = played (whole_lines [] bytes);
    }

-- a refused line's status depends on the refusal and the count alone
end_by-refused : (r q : Reading) (x : Option Refusal) → is_some x ≡ true → r.count ≡ q.count → end_by r x ≡ end_by q x
end_by-refused r q None is count = absurd (cc)
end_by-refused r q (Some why) is count = ap (λ k. refused_end (k + 1) why) count

pub end-refused : (r q : Reading) → is_some r.refused ≡ true → r.refused ≡ q.refused → r.count ≡ q.count → end_of r ≡ end_of q
end-refused r q is refused count = end_by-refused r q r.refused is count ∙ ap (λ x. end_by q x) refused

-- nothing is told behind a refused line
last-refused : (r : Reading) (x : Option Refusal) → is_some x ≡ true → last_told r x ≡ []
last-refused r None is = absurd (cc)
last-refused r (Some why) is = refl

-- an input reads as the whole lines of these bytes
record ReadsAs (closed input : List ℕ) : Type 0 where
  read : script_read node_courses input ≡ script_after node_courses closed
  told : told_after node_courses unread (script_lines input) ≡ told_after node_courses unread (whole_lines [] closed)

-- what comes behind a refused line is not read
reads-ended : (bytes input : List ℕ) → Begins bytes input → is_some (script_after node_courses bytes).refused ≡ true → ReadsAs bytes input
reads-ended bytes input b is =
    let r = script_after node_courses bytes in
    let whole = whole_lines [] bytes in
    record {
      read = ap (λ ls. reading_after node_courses unread ls) b.split ∙ (after-append node_courses unread whole b.more ∙ after-refused node_courses r b.more is);
      told = ap (λ ls. told_after node_courses unread ls) b.split
          ∙ (told-append node_courses unread whole b.more
          ∙ (ap (λ lines. told_after node_courses unread whole ++ lines) (told_after-refused node_courses r b.more is) ∙ append-nil (told_after node_courses unread whole)));
    }

-- nor what comes behind the bytes of a line that is too long
reads-long : (bytes input : List ℕ) → Starts bytes input → IsLong (rest_of [] bytes) → ReadsAs (bytes ++ 10 ∷ []) input
reads-long bytes input s long =
    let whole = whole_lines [] bytes in
    let line = rest_of [] bytes in
    let on = lines-behind bytes s.rest (omega (arith, long)) in
    let all = s.same ∙ on.2 in
    let closed = whole-feed [] bytes 10 refl in
    record {
      read = ap (λ ls. reading_after node_courses unread ls) all
          ∙ (long-read node_courses whole on.1 line (line ++ on.0) long (long-more line on.0 long) (long-front line on.0 long) ∙ ap (λ ls. reading_after node_courses unread ls) (sym closed));
      told = ap (λ ls. told_after node_courses unread ls) all
          ∙ (long-tells node_courses whole on.1 line (line ++ on.0) long (long-more line on.0 long) ∙ ap (λ ls. told_after node_courses unread ls) (sym closed));
    }

-- so an input reads as far as the line that is refused
reads-closed : (bytes closed input : List ℕ) → Starts bytes input → Closes bytes closed → is_some (script_after node_courses closed).refused ≡ true → ReadsAs closed input
reads-closed bytes closed input s (inl same) is =
    subst (λ c. ReadsAs c input) (sym same) (reads-ended bytes input (begins bytes input s) (ap (λ c. is_some (script_after node_courses c).refused) (sym same) ∙ is))
reads-closed bytes closed input s (inr long) is = subst (λ c. ReadsAs c input) (sym long.0) (reads-long bytes input s long.1)

-- so its transcript begins with what they tell
closed-front : (bytes closed input : List ℕ) → Starts bytes input → Closes bytes closed → (rest : List ℕ) × (text_of (transcript node_courses input) ≡ text_after node_courses closed ++ rest)
closed-front bytes closed input s (inl same) = transcript-front closed input (begins closed input (subst (λ c. Starts c input) (sym same) s))
closed-front bytes closed input s (inr long) =
    let reads : ReadsAs (bytes ++ 10 ∷ []) input = reads-long bytes input s long.1 in
    let last : List OutLine = last_told (script_read node_courses input) (script_read node_courses input).refused in (
      text_of last,
      text-append (told_after node_courses unread (script_lines input)) last
          ∙ (ap (λ lines. text_of lines ++ text_of last) reads.told ∙ ap (λ c. text_after node_courses c ++ text_of last) (sym long.0)),
    )

-- a run that broke off has written a front of the transcript
pub broken-front : (left written now : Option (List ℕ)) (bytes input : List ℕ) → Starts bytes input → IsLeft left input
    → HasBroken core_courses bytes written now → WroteFront left written now
broken-front left written now bytes input s is_left broken =
    let front = closed-front bytes broken.closed input s broken.closes in
    let some = front_of (text_after node_courses broken.closed) front.0 broken.count in
    record {
      input = input;
      is_left = is_left;
      count = some.0;
      text = subst (λ text. Appends written now text)
          (ap (λ text. take broken.count text) (same-text broken.closed) ∙ (sym some.1 ∙ ap (λ text. take some.0 text) (sym front.1))) broken.text;
      played = played (script_lines input);
    }

-- a run that a refused line has ended
pub refused-ends : (left written now : Option (List ℕ)) (bytes input : List ℕ) (script : Reading) → Starts bytes input → IsLeft left input
    → HasRefused core_courses bytes written now script → Ends left written now (end_of script)
refused-ends left written now bytes input script s is_left refused =
    let r : Reading = script_after node_courses refused.closed in
    let whole : List (List ℕ) = whole_lines [] refused.closed in
    let why : script.refused ≡ r.refused = refused.refused ∙ core-refused whole in
    let is : is_some r.refused ≡ true = sym (ap (λ x. is_some x) why) ∙ refused.is in
    let reads : ReadsAs refused.closed input = reads-closed bytes refused.closed input s refused.closes is in
    let last : last_told (script_read node_courses input) (script_read node_courses input).refused ≡ [] =
    last-refused (script_read node_courses input) (script_read node_courses input).refused (ap (λ (q : Reading). is_some q.refused) reads.read ∙ is) in
    let text : text_of (transcript node_courses input) ≡ text_after node_courses refused.closed =
    ap (λ lines. text_of (told_after node_courses unread (script_lines input) ++ lines)) last
    ∙ (ap text_of (append-nil (told_after node_courses unread (script_lines input))) ∙ ap text_of reads.told) in
    record {
      input = input;
      is_left = is_left;
      status_is = end-refused script r refused.is why (refused.count ∙ core-count whole) ∙ sym (ap (λ (q : Reading). end_of q) reads.read);
      text = subst (λ x. Appends written now x) (same-text refused.closed ∙ sym text) refused.text;
      played = played (script_lines input);
    }

-- a refused line ends a run by its status
pub refused-run : (left left' written now : Option (List ℕ)) (wants wants' : ℕ) (r : Reading) (x : Option Refusal) → is_some x ≡ true
    → Ends left written now (end_by r x) → RunEnd left left' written now wants wants' (end_by r x)
refused-run left left' written now wants wants' r None is e = absurd (cc)
refused-run left left' written now wants wants' r (Some (refusals.Script kind)) is e = e
refused-run left left' written now wants wants' r (Some (refusals.Premise which)) is e = e
refused-run left left' written now wants wants' r (Some refusals.Limit) is e = e

-- what was consumed, and what is left

pub consumes-then : (a b c : Option (List ℕ)) (xs ys : List ℕ) → Consumes a b xs → Consumes b c ys → Consumes a c (xs ++ ys)
consumes-then None b c xs ys first next = tt
consumes-then (Some a) None c xs ys first next = absurd first
consumes-then (Some a) (Some b) None xs ys first next = absurd next
consumes-then (Some a) (Some b) (Some c) xs ys first next = first ∙ (ap (λ zs. xs ++ zs) next ∙ sym (append_assoc xs ys c))

pub consumes-keeps : (a b c : Option (List ℕ)) (xs : List ℕ) → Consumes a b xs → Keeps b c → Consumes a c xs
consumes-keeps None b c xs first keeps = tt
consumes-keeps (Some a) None c xs first keeps = absurd first
consumes-keeps (Some a) (Some b) None xs first keeps = absurd keeps
consumes-keeps (Some a) (Some b) (Some c) xs first keeps = first ∙ ap (λ ys. xs ++ ys) (sym keeps)

-- the input that some bytes begin
input_of : (left left' : Option (List ℕ)) (bytes : List ℕ) → Consumes left left' bytes → (rest : List ℕ) × IsLeft left (bytes ++ rest)
input_of None left' bytes consumed = ([], tt)
input_of (Some a) None bytes consumed = absurd consumed
input_of (Some a) (Some b) bytes consumed = (b, consumed)

-- at the end of the input, it is what was consumed
pub input_at_end : (left left' : Option (List ℕ)) (bytes : List ℕ) → Consumes left left' bytes → IsAtEnd left' → IsLeft left bytes
input_at_end None left' bytes consumed end = tt
input_at_end (Some a) None bytes consumed end = absurd consumed
input_at_end (Some a) (Some b) bytes consumed end = consumed ∙ (ap (λ ys. bytes ++ ys) end ∙ append-nil bytes)

-- a run that stopped within a piece

within-starts : (left left' : Option (List ℕ)) (bytes piece : List ℕ) (P : List ℕ → Type 0) → Consumes left left' (bytes ++ piece) → (w : Within bytes piece P)
    → (input : List ℕ) × Starts (bytes ++ w.front) input × IsLeft left input
within-starts left left' bytes piece P consumed w =
    let some = input_of left left' (bytes ++ piece) consumed in (
      (bytes ++ w.front) ++ (w.rest ++ some.0),
      record { rest = w.rest ++ some.0; same = refl },
      subst (λ input. IsLeft left input)
          (ap (λ xs. (bytes ++ xs) ++ some.0) w.split ∙ (append_assoc bytes (w.front ++ w.rest) some.0 ∙ (ap (λ xs. bytes ++ xs) (append_assoc w.front w.rest some.0) ∙ sym (append_assoc bytes w.front (w.rest ++ some.0)))))
          some.1,
    )

pub halted-end : (left left' written now : Option (List ℕ)) (wants wants' : ℕ) (bytes piece : List ℕ) (script : Reading) (halt : Halt)
    → Consumes left left' (bytes ++ piece) → (halt ≡ halts.SinkMemory → Rose wants wants') → Halted core_courses bytes piece written now script halt
    → RunEnd left left' written now wants wants' (halt_end script halt)
halted-end left left' written now wants wants' bytes piece script halts.Refused consumed rose w =
    let i = within-starts left left' bytes piece _ consumed w in
    refused-run left left' written now wants wants' script script.refused w.holds.is (refused-ends left written now (bytes ++ w.front) i.0 script i.1 i.2 w.holds)
halted-end left left' written now wants wants' bytes piece script halts.WriteFault consumed rose w =
    let i = within-starts left left' bytes piece _ consumed w in broken-front left written now (bytes ++ w.front) i.0 i.1 i.2 w.holds
halted-end left left' written now wants wants' bytes piece script halts.SinkMemory consumed rose w =
    let i = within-starts left left' bytes piece _ consumed w in inr (rose refl, broken-front left written now (bytes ++ w.front) i.0 i.1 i.2 w.holds)
halted-end left left' written now wants wants' bytes piece script halts.NoMemory consumed rose w =
    let i = within-starts left left' bytes piece _ consumed w in inl (told-lines left written now (bytes ++ w.front) i.0 (begins _ _ i.1) i.2 w.holds)

-- a read that failed
pub read-failed : (left now_left left' written now : Option (List ℕ)) (bytes line : List ℕ) (script : Reading) → Keeps now_left left'
    → GoesOn core_courses bytes left now_left written now line script → WroteAllRead left left' written now
read-failed left now_left left' written now bytes line script keeps g =
    record {
      read = bytes;
      consumed = consumes-keeps left now_left left' bytes g.consumed keeps;
      going = sym (core-refused (whole_lines [] bytes)) ∙ (ap (λ (r : Reading). r.refused) (sym g.taken.script_is) ∙ g.taken.going);
      text = subst (λ text. Appends written now text) (same-text bytes) g.taken.text;
      played = played (whole_lines [] bytes);
    }

-- a read that wanted memory
pub read-unread : (left left' written now : Option (List ℕ)) (bytes line : List ℕ) (script : Reading)
    → GoesOn core_courses bytes left left' written now line script → WroteLines left written now
read-unread left left' written now bytes line script g =
    let some = input_of left left' bytes g.consumed in
    let front = lines-front bytes some.0 in
    told-lines left written now bytes (bytes ++ some.0) (record { more = front.0; split = front.1 }) some.1 (record { text = g.taken.text })

-- the input that a source has left
left_of : (left : Option (List ℕ)) → (input : List ℕ) × IsLeft left input
left_of None = ([], tt)
left_of (Some xs) = (xs, refl)

pub appends-nothing : (written : Option (List ℕ)) → Appends written written []
appends-nothing None = tt
appends-nothing (Some xs) = sym (append-nil xs)

-- a run that wanted memory before it read anything
unread_end : (left written : Option (List ℕ)) → WroteLines left written written
unread_end left written =
    let some = left_of left in
    told-lines left written written [] some.0 (record { more = script_lines some.0; split = refl }) some.1 (record { text = appends-nothing written })

pub unread_run : (left written : Option (List ℕ)) (wants : ℕ) → RunEnd left left written written wants wants ends.NoMemory
unread_run left written wants = inl (unread_end left written)
