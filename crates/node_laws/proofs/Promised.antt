-- A node that promises a regency stays sound, and so does one in which a promised regency begins.
use Rattle.std.proofs.Common.{List, ap, arith, refl, subst, sym, ℕ, ◌≡◌, ◌<◌, ◌∙◌}
use Rattle.agreement_laws.specs.Certificates.{IsChosen}
use Rattle.agreement_laws.specs.Statements.{Statement}
use Rattle.node_rules.specs.Nodes.{Node, greatest_regency, recording, regency_in, regency_of, view_of}
use Rattle.smart_base.specs.Views.{View}
use Rattle.vote_book.specs.Books.{Among}
use Rattle.vote_book.specs.Tidy.{first_slot, promise_of}
use Rattle.vote_book.specs.declared.entry.LogEntry.TheVariants.{Promised, Synced}
use Rattle.vote_book.specs.declared.entry.Promise.{Promise}
use Rattle.vote_book.specs.declared.entry.Start.{Start}
use Rattle.node_laws.proofs.Books.{greatest_push, promise_in, promised_greatest, promised_push}
use Rattle.node_laws.proofs.Nodes.{in_force_of, number_known, number_newest, records}
use Rattle.node_laws.proofs.Views.{known_begun}
use Rattle.node_laws.proofs.Votes.{no_promise}
use Rattle.node_laws.specs.Sound.{ArePromisedUpTo, IsKnown, IsSound}

-- a later regency is promised
pub records_promise : {S : Type 0} (stated : List Statement) (view : View) (n : Node S) (p : Promise) → IsSound stated view n → p.view ≡ (view_of n).number → regency_of n < p.regency
    → IsSound stated view (recording n (Promised p))
records_promise stated view n p is at later =
    let is_in : regency_in p.view (Promised p) ≡ p.regency = promise_in p.view p refl in
    let grown = greatest_push p.view n.entries (Promised p) in
    let known : IsKnown n.replica.views p.view = subst (IsKnown n.replica.views) (sym at) (number_known stated view n is) in
    records stated view n (Promised p) is (record {
      admits = tt;
      tidy = tt;
      within = record { of_view = known; begun = known_begun view n.replica.place n.replica.views is.views p.view known; some = omega (arith, later); most = omega (arith, is_in, grown) };
      newest = subst (λ (k : ℕ). ArePromisedUpTo k n.entries) (sym at) (number_newest stated view n is);
      backed = λ v there. tt;
      batch = tt;
    }) refl

-- it is in force then
pub regency_then : {S : Type 0} (n : Node S) (p : Promise) → p.view ≡ (view_of n).number → regency_of n < p.regency → regency_of (recording n (Promised p)) ≡ p.regency
unfolding regency_of
regency_then n p at later =
    let is_in : regency_in (view_of n).number (Promised p) ≡ p.regency = promise_in (view_of n).number p at in
    let grown = greatest_push (view_of n).number n.entries (Promised p) in
    omega (arith, is_in, grown, later)

-- the regency in force begins, once
pub records_start : {S : Type 0} (stated : List Statement) (view : View) (n : Node S) (start : Start) → IsSound stated view n → start.view ≡ (view_of n).number → start.regency ≡ regency_of n
    → 0 < start.regency → ((other : Start) → Among (Synced other) n.entries → other.view ≡ start.view → other.regency ≡ start.regency → ⊥) → IsChosen n.secret (view_of n) stated start
    → IsSound stated view (recording n (Synced start))
unfolding regency_of
records_start stated view n start is at in_regency some once chosen =
    let promised : Among (promise_of (view_of n).number (regency_of n)) n.entries = promised_greatest (view_of n).number n.entries (omega (arith, some, in_regency)) in
    let newest : ArePromisedUpTo start.view n.entries = subst (λ (k : ℕ). ArePromisedUpTo k n.entries) (sym at) (number_newest stated view n is) in
    let same : greatest_regency start.view n.entries ≡ greatest_regency (view_of n).number n.entries = ap (λ (k : ℕ). greatest_regency k n.entries) at in
    let more = promised_push n.entries (Synced start) start.view in
    let known : IsKnown n.replica.views start.view = subst (IsKnown n.replica.views) (sym at) (number_known stated view n is) in
    records stated view n (Synced start) is (record {
      admits = tt;
      tidy = record {
        promised = subst (λ (v : ℕ). Among (promise_of v start.regency) n.entries) (sym at)
            (subst (λ (r : ℕ). Among (promise_of (view_of n).number r) n.entries) (sym in_regency) promised);
        promises = no_promise n.entries (first_slot start) newest (omega (arith, same, in_regency));
        once = once;
      };
      within = record { of_view = known; begun = known_begun view n.replica.place n.replica.views is.views start.view known; some = some; most = omega (arith, same, in_regency, more) };
      newest = newest;
      backed = λ v there of above. in_force_of stated view n is (λ (u : View). IsChosen n.secret u stated start) v there (sym at ∙ of) chosen;
      batch = tt;
    }) refl
