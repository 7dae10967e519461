-- A client accepts a reply exactly where a quorum has given it.
use Rattle.std.proofs.Common.{◌≡◌, ℕ, suc, ◌+◌, ◌/◌, ◌++◌, ◌==◌, Bool, true, false, ◌&&◌, ◌||◌, List, [], ◌∷◌, length, refl, ap, ◌∙◌, sym, arith, cond, Option, Some, None, is_some, nat_le, subst, eqb-true, inl, inr, ◌⊎◌}
use Rattle.std.proofs.Math.Dec.{leb-suc-zero}
use Rattle.std.specs.List.{list_any}
use Rattle.std.proofs.lemmas.List.{append_assoc, append-nil}
use Rattle.smart_base.specs.Lists.{or_else, Each}
use Rattle.smart_base.specs.Views.{View, quorum, is_quorum, is_member}
use Rattle.smart_statements.specs.Forms.{SignedBy}
use Rattle.smart_statements.specs.Kinds.{answers}
use Rattle.smart_statements.specs.declared.statement.Request.{Request}
use Rattle.smart_statements.specs.declared.statement.Answer.{Answer}
use Rattle.smart_messages.specs.declared.regency.ViewInfo.{ViewInfo}
use Rattle.certificates.specs.Collects.{view_numbered, of_view}
use Rattle.replica_rules.specs.Seals.{is_verified}
use Rattle.client_quorum.specs.Clients.{asking, same_answer, has_answer, have, is_waited_for, acceptance, known, why_uncounted, why_ignored, count_heard, heard_unless, heard, after_heard}
use Rattle.client_quorum.specs.ViewWords.{with_info, told_unless, why_untold, told, after_told}
use Rattle.client_quorum.specs.Quorums.{Came, after_words, came_to, counts_for, first_of, is_same, gave, quorum_gave, first_given, accepted_in, accepted_of}
use Rattle.client_quorum.specs.declared.client.Client.{Client}
use Rattle.client_quorum.specs.declared.client.Acceptance.{Acceptance}
use Rattle.client_quorum.specs.declared.client.Ignored.{Ignored}
use Rattle.client_quorum.specs.declared.client.Heard.{Heard}
use Rattle.client_quorum.specs.declared.client.Heard.TheVariants as hears
use Rattle.client_quorum.specs.declared.client.Word.{Word}
use Rattle.client_quorum.specs.declared.client.Word.TheVariants as words
use Rattle.client_quorum.proofs.Firsts.{decide, filter_alike, filter_none, any_end, same_answer-alike, same_answer-view, first_end, uncounted_by, Reasons, reasons_of}

-- ---- views that are known

-- a reply that states a view among these
abbrev pub IsStated : List View → SignedBy Answer → Type 0
IsStated views r = is_some (view_numbered views r.statement.view) ≡ true

-- a view of a list with one more at its end: of the list, or the last
pub numbered_end : (views : List View) (view : View) (number : ℕ) → view_numbered (views ++ view ∷ []) number ≡ or_else (view_numbered views number) (cond (view.number == number) (Some view) None)
numbered_end [] view number = refl
numbered_end (v ∷ views) view number = by (v.number == number) _ _ _ (numbered_end views view number)
  where
    by : (t : Bool) (long short last : Option View) → long ≡ or_else short last → cond t (Some v) long ≡ or_else (cond t (Some v) short) last
    by true long short last same = refl
    by false long short last same = same

-- a view that is known stays so
pub known_stays : (views : List View) (view : View) (number : ℕ) (v : View) → view_numbered views number ≡ Some v → view_numbered (views ++ view ∷ []) number ≡ Some v
known_stays views view number v is = numbered_end views view number ∙ ap (λ (f : Option View). or_else f (cond (view.number == number) (Some view) None)) is

stated_stays : (views : List View) (view : View) (r : SignedBy Answer) → IsStated views r → IsStated (views ++ view ∷ []) r
stated_stays views view r is = by (view_numbered views r.statement.view) refl is
  where
    by : (found : Option View) → view_numbered views r.statement.view ≡ found → is_some found ≡ true → IsStated (views ++ view ∷ []) r
    by None at some = absurd (cc)
    by (Some v) at some = ap (λ (f : Option View). is_some f) (known_stays views view r.statement.view v at)

all_stay : (views : List View) (view : View) (replies : List (SignedBy Answer)) → Each (IsStated views) replies → Each (IsStated (views ++ view ∷ [])) replies
all_stay views view [] all = tt
all_stay views view (r ∷ rs) all = (stated_stays views view r all.0, all_stay views view rs all.1)

each_last : (views : List View) (replies : List (SignedBy Answer)) (a : SignedBy Answer) → Each (IsStated views) replies → IsStated views a → Each (IsStated views) (replies ++ a ∷ [])
each_last views [] a all last = (last, tt)
each_last views (r ∷ rs) a all last = (all.0, each_last views rs a all.1 last)

-- replies that state views among these are none that states another view
none_of : (views : List View) (replies : List (SignedBy Answer)) (b : Answer) (member : ℕ) → Each (IsStated views) replies → view_numbered views b.view ≡ None → has_answer replies b member ≡ false
none_of views [] b member all unknown = refl
none_of views (r ∷ rs) b member all unknown = neither (r.signer == member) (same_answer r.statement b) (has_answer rs b member) (other (same_answer r.statement b) refl) (none_of views rs b member all.1 unknown)
  where
    wrong : same_answer r.statement b ≡ true → true ≡ false
    wrong same = sym all.0 ∙ ap (λ (f : Option View). is_some f) (ap (view_numbered views) (same_answer-view r.statement b same) ∙ unknown)

    other : (t : Bool) → same_answer r.statement b ≡ t → same_answer r.statement b ≡ false
    other true is = is ∙ wrong is
    other false is = is

    neither : (own same later : Bool) → same ≡ false → later ≡ false → ((own && same) || later) ≡ false
    neither true true later fails none = absurd (cc)
    neither true false later fails none = none
    neither false same later fails none = none

-- a quorum is not empty
few : (n : ℕ) → nat_le (n / 2 + 1) 0 ≡ false
few n = let one : n / 2 + 1 ≡ suc (n / 2) = omega arith in rw one (leb-suc-zero (n / 2))

-- ---- a client that waits

-- the reply that came, with the views that the client knew
abbrev came : Client → SignedBy Answer → Came
came c a = record { reply = a; views = c.views }

-- where a view is known that a reply states, it has no quorum
abbrev IsShort : List View → List (SignedBy Answer) → Answer → Type 0
IsShort views replies b = (v : View) → view_numbered views b.view ≡ Some v → nat_le (quorum v) (have v replies b) ≡ false

-- a client that waits has kept the first reply of each member, in views that it knows, and no reply has a quorum yet
pub record Waits (secret : List ℕ) (q : Request) (past : List Came) (c : Client) : Type 0 where
  pub waits : c.waiting ≡ Some q
  pub given : (b : Answer) (member : ℕ) → has_answer c.replies b member ≡ gave secret q past b member
  pub signers : (member : ℕ) → list_any (λ r. r.signer == member) c.replies ≡ is_some (first_of (counts_for secret q) past member)
  pub stated : Each (IsStated c.views) c.replies
  pub short : (b : Answer) → IsShort c.views c.replies b

-- what members that gave a reply weigh
have_gave : (secret : List ℕ) (q : Request) (past : List Came) (v : View) (replies : List (SignedBy Answer)) (b : Answer) → ((member : ℕ) → has_answer replies b member ≡ gave secret q past b member)
    → nat_le (quorum v) (have v replies b) ≡ is_quorum v (gave secret q past b)
have_gave secret q past v replies b alike = ap (λ (ms : List ℕ). nat_le (quorum v) (length ms)) (filter_alike (has_answer replies b) (gave secret q past b) alike v.members)

-- so a reply has a quorum where the replies that are kept make one
quorum_kept : (secret : List ℕ) (q : Request) (past : List Came) (views : List View) (v : View) (replies : List (SignedBy Answer)) (b : Answer)
    → ((member : ℕ) → has_answer replies b member ≡ gave secret q past b member) → view_numbered views b.view ≡ Some v → quorum_gave secret q past views b ≡ nat_le (quorum v) (have v replies b)
quorum_kept secret q past views v replies b alike is =
    ap (λ (f : Option View). of_view f (λ v. is_quorum v (gave secret q past b))) is ∙ sym (have_gave secret q past v replies b alike)

-- where each is short, none has a quorum
none_gave : (secret : List ℕ) (q : Request) (past : List Came) (views : List View) (replies : List (SignedBy Answer)) (b : Answer)
    → ((member : ℕ) → has_answer replies b member ≡ gave secret q past b member) → IsShort views replies b → quorum_gave secret q past views b ≡ false
none_gave secret q past views replies b alike short = by (view_numbered views b.view) refl
  where
    by : (found : Option View) → view_numbered views b.view ≡ found → quorum_gave secret q past views b ≡ false
    by None is = ap (λ (f : Option View). of_view f (λ v. is_quorum v (gave secret q past b))) is
    by (Some v) is = quorum_kept secret q past views v replies b alike is ∙ short v is

-- a reply that does not count, or whose member has given one, changes no first
first_kept : (counts : Bool) (own : Bool) (first : Option Answer) (x : Answer) → ((own ≡ true) → (counts ≡ false) ⊎ (is_some first ≡ true)) → or_else first (cond (own && counts) (Some x) None) ≡ first
first_kept counts own (Some y) x why = refl
first_kept counts false None x why = refl
first_kept false true None x why = refl
first_kept true true None x why = elim (why refl) [ inl wrong ↦ absurd (cc) | inr wrong ↦ absurd (cc) ]

-- a reply that counts, of a member that has given none, is that member's first
first_joined : (own counts : Bool) (first : Option Answer) (x b : Answer) → counts ≡ true → (own ≡ true → is_some first ≡ false)
    → (is_same first b || (own && same_answer x b)) ≡ is_same (or_else first (cond (own && counts) (Some x) None)) b
first_joined false counts None x b is none = refl
first_joined false counts (Some y) x b is none = or_none (same_answer y b)
  where
    or_none : (t : Bool) → (t || false) ≡ t
    or_none true = refl
    or_none false = refl
first_joined true true None x b is none = refl
first_joined true false None x b is none = absurd (cc)
first_joined true counts (Some y) x b is none = let no = none refl in absurd (cc)

signer_joined : (own counts : Bool) (first : Option Answer) (x : Answer) → counts ≡ true → (is_some first || own) ≡ is_some (or_else first (cond (own && counts) (Some x) None))
signer_joined own counts (Some y) x is = refl
signer_joined false counts None x is = refl
signer_joined true true None x is = refl
signer_joined true false None x is = absurd (cc)

-- a client that hears a reply accepts it where a quorum has given it with this one, and else waits on
abbrev pub Stepped : List ℕ → Request → List Came → Client → SignedBy Answer → Heard → Type 0
Stepped secret q past c a h =
    ((accepted_in h ≡ Some (acceptance q a.statement)) × (quorum_gave secret q (past ++ came c a ∷ []) c.views a.statement ≡ true))
    ⊎ ((accepted_in h ≡ None) × (quorum_gave secret q (past ++ came c a ∷ []) c.views a.statement ≡ false) × Waits secret q (past ++ came c a ∷ []) (after_heard c a h))

module _ (secret : List ℕ) (q : Request) (past : List Came) (c : Client) (a : SignedBy Answer) (w : Waits secret q past c) where
  abbrev counts : Came → Bool
  counts = counts_for secret q

  abbrev now : List Came
  now = past ++ came c a ∷ []

  -- ---- a reply that is ignored

  module _ (why : (counts (came c a) ≡ false) ⊎ (list_any (λ r. r.signer == a.signer) c.replies ≡ true)) where
    had : (member : ℕ) → a.signer ≡ member → list_any (λ r. r.signer == a.signer) c.replies ≡ true → is_some (first_of counts past member) ≡ true
    had member same again = subst (λ (m : ℕ). is_some (first_of counts past m) ≡ true) same (sym (w.signers a.signer) ∙ again)

    -- it leaves the first reply of each member
    ignored_first : (member : ℕ) → first_of counts now member ≡ first_of counts past member
    ignored_first member =
        first_end counts past (came c a) member
        ∙ first_kept (counts (came c a)) (a.signer == member) (first_of counts past member) a.statement
        (λ own. elim why [ inl uncounted ↦ inl uncounted | inr again ↦ inr (had member (eqb-true a.signer member own) again) ])

    ignored_given : (b : Answer) (member : ℕ) → has_answer c.replies b member ≡ gave secret q now b member
    ignored_given b member = w.given b member ∙ ap (λ (f : Option Answer). is_same f b) (sym (ignored_first member))

    step_ignored : (reason : Ignored) → Stepped secret q past c a (hears.Ignored reason)
    step_ignored reason =
        inr (
          refl,
          none_gave secret q now c.views c.replies a.statement (ignored_given a.statement) (w.short a.statement),
          record {
            waits = w.waits;
            given = ignored_given;
            signers = λ member. w.signers member ∙ ap (λ (f : Option Answer). is_some f) (sym (ignored_first member));
            stated = w.stated;
            short = w.short;
          },
        )

  -- ---- a reply that counts

  module _ (counted : counts (came c a) ≡ true) (once : list_any (λ r. r.signer == a.signer) c.replies ≡ false) (v : View) (is : view_numbered c.views a.statement.view ≡ Some v) where
    -- the member has given none before
    none_before : (member : ℕ) → (a.signer == member) ≡ true → is_some (first_of counts past member) ≡ false
    none_before member own = subst (λ (m : ℕ). is_some (first_of counts past m) ≡ false) (eqb-true a.signer member own) (sym (w.signers a.signer) ∙ once)

    given_with : (b : Answer) (member : ℕ) → has_answer (c.replies ++ a ∷ []) b member ≡ gave secret q now b member
    given_with b member =
        any_end (λ r. (r.signer == member) && same_answer r.statement b) c.replies a
        ∙ (ap (λ (t : Bool). t || ((a.signer == member) && same_answer a.statement b)) (w.given b member)
        ∙ (first_joined (a.signer == member) (counts (came c a)) (first_of counts past member) a.statement b counted (none_before member)
        ∙ ap (λ (f : Option Answer). is_same f b) (sym (first_end counts past (came c a) member))))

    signers_with : (member : ℕ) → list_any (λ r. r.signer == member) (c.replies ++ a ∷ []) ≡ is_some (first_of counts now member)
    signers_with member =
        any_end (λ r. r.signer == member) c.replies a
        ∙ (ap (λ (t : Bool). t || (a.signer == member)) (w.signers member)
        ∙ (signer_joined (a.signer == member) (counts (came c a)) (first_of counts past member) a.statement counted
        ∙ ap (λ (f : Option Answer). is_some f) (sym (first_end counts past (came c a) member))))

    -- where the reply has no quorum with this one, none has
    short_with : nat_le (quorum v) (have v (c.replies ++ a ∷ []) a.statement) ≡ false → (b : Answer) → IsShort c.views (c.replies ++ a ∷ []) b
    short_with lacks b u found = elim (decide (same_answer a.statement b)) [ inl same ↦ alike same | inr other ↦ unlike other ]
      where
        each : (same : same_answer a.statement b ≡ true) (member : ℕ) (rs : List (SignedBy Answer)) → has_answer rs a.statement member ≡ has_answer rs b member
        each same member [] = refl
        each same member (r ∷ rs) = let first = same_answer-alike a.statement b same r.statement in let rest = each same member rs in cc

        one : same_answer a.statement b ≡ true → v ≡ u
        one same = some_one (sym is ∙ ap (view_numbered c.views) (same_answer-view a.statement b same) ∙ found)
          where
            some_one : Some v ≡ Some u → v ≡ u
            some_one e = cc

        alike : same_answer a.statement b ≡ true → nat_le (quorum u) (have u (c.replies ++ a ∷ []) b) ≡ false
        alike same =
            subst (λ (x : View). nat_le (quorum x) (have x (c.replies ++ a ∷ []) b) ≡ false) (one same)
            (subst (λ (ms : List ℕ). nat_le (quorum v) (length ms) ≡ false)
            (filter_alike (has_answer (c.replies ++ a ∷ []) a.statement) (has_answer (c.replies ++ a ∷ []) b) (λ member. each same member (c.replies ++ a ∷ [])) v.members) lacks)

        none : (t own same : Bool) → same ≡ false → (t || (own && same)) ≡ t
        none true own same fails = refl
        none false true true fails = absurd (cc)
        none false true false fails = refl
        none false false same fails = refl

        unlike : same_answer a.statement b ≡ false → nat_le (quorum u) (have u (c.replies ++ a ∷ []) b) ≡ false
        unlike other =
            subst (λ (ms : List ℕ). nat_le (quorum u) (length ms) ≡ false)
            (filter_alike (has_answer c.replies b) (has_answer (c.replies ++ a ∷ []) b)
            (λ member. sym (any_end (λ r. (r.signer == member) && same_answer r.statement b) c.replies a ∙ none (has_answer c.replies b member) (a.signer == member) (same_answer a.statement b) other)) u.members)
            (w.short b u found)

    step_counted : Stepped secret q past c a (count_heard v c a q)
    step_counted = by (nat_le (quorum v) (have v (c.replies ++ a ∷ []) a.statement)) refl
      where
        gives : quorum_gave secret q now c.views a.statement ≡ nat_le (quorum v) (have v (c.replies ++ a ∷ []) a.statement)
        gives = quorum_kept secret q now c.views v (c.replies ++ a ∷ []) a.statement (given_with a.statement) is

        by : (t : Bool) → nat_le (quorum v) (have v (c.replies ++ a ∷ []) a.statement) ≡ t
            → Stepped secret q past c a (cond t (hears.Accepted (acceptance q a.statement)) (hears.Counted (have v (c.replies ++ a ∷ []) a.statement) (quorum v)))
        by true enough = inl (refl, gives ∙ enough)
        by false lacks =
            inr (
              refl,
              gives ∙ lacks,
              record {
                waits = w.waits;
                given = given_with;
                signers = signers_with;
                stated = each_last c.views c.replies a w.stated (ap (λ (f : Option View). is_some f) is);
                short = short_with lacks;
              },
            )

  -- ---- so each reply does one of both

  abbrev repeats : Bool
  repeats = list_any (λ r. r.signer == a.signer) c.replies

  uncounted_is : (found : Option View) → why_uncounted found c a ≡ uncounted_by found (λ v. is_member v a.signer) repeats
  uncounted_is None = refl
  uncounted_is (Some v) = refl

  step_heard : Stepped secret q past c a (heard secret c a)
  unfolding heard why_ignored
  step_heard =
      by (why_ignored secret c a) c.waiting w.waits (known c a.statement.view) refl
      (reasons_of (is_verified answers secret a) (is_waited_for c.waiting a.statement) (known c a.statement.view) (λ v. is_member v a.signer) repeats _ (uncounted_is (known c a.statement.view)))
    where
      by : (why : Option Ignored) (waiting : Option Request) → waiting ≡ Some q → (found : Option View) → view_numbered c.views a.statement.view ≡ found
          → Reasons (is_verified answers secret a && is_waited_for waiting a.statement && of_view found (λ v. is_member v a.signer)) found repeats why
          → Stepped secret q past c a (heard_unless c a why waiting found)
      by why None waits found is reason = absurd (cc)
      by why (Some q') waits found is reason = subst (λ (x : Request). Stepped secret q past c a (heard_unless c a why (Some x) found)) (sym same) (of_own why found is (subst (λ (x : Request). Reasons (is_verified answers secret a && is_waited_for (Some x) a.statement && of_view found (λ v. is_member v a.signer)) found repeats why) same reason))
        where
          same : q' ≡ q
          same = cc

          of_own : (why : Option Ignored) (found : Option View) → view_numbered c.views a.statement.view ≡ found
              → Reasons (is_verified answers secret a && is_waited_for (Some q) a.statement && of_view found (λ v. is_member v a.signer)) found repeats why
              → Stepped secret q past c a (heard_unless c a why (Some q) found)
          of_own (Some w') found is reason = elim reason [
            | inl fine ↦ absurd (is_none fine.0)
            | inr bad ↦ step_ignored (subst (λ (f : Option View). ((is_verified answers secret a && is_waited_for (Some q) a.statement && of_view f (λ v. is_member v a.signer)) ≡ false) ⊎ (repeats ≡ true)) (sym is) bad.2) w'
          ]
            where
              is_none : Some w' ≡ None → ⊥
              is_none none = cc
          of_own None None is reason = elim reason [ inl fine ↦ absurd (is_known fine.3.0 fine.3.1) | inr bad ↦ absurd (is_some_why bad.0 bad.1) ]
            where
              is_known : (v : View) → None ≡ Some v → ⊥
              is_known v none = cc

              is_some_why : (w' : Ignored) → None ≡ Some w' → ⊥
              is_some_why w' none = cc
          of_own None (Some v) is reason = elim reason [
            | inl fine ↦ step_counted (subst (λ (f : Option View). (is_verified answers secret a && is_waited_for (Some q) a.statement && of_view f (λ v. is_member v a.signer)) ≡ true) (sym is) fine.1) fine.2 v is
            | inr bad ↦ absurd (is_some_why bad.0 bad.1)
          ]
            where
              is_some_why : (w' : Ignored) → None ≡ Some w' → ⊥
              is_some_why w' none = cc

-- ---- a statement of a view

module _ (secret : List ℕ) (q : Request) (past : List Came) (c : Client) (i : SignedBy ViewInfo) where
  -- a client that waits does so with one view more
  waits_on : Waits secret q past c → (infos : List (SignedBy ViewInfo)) → Waits secret q past (record c { views = c.views ++ i.statement.view ∷ []; infos = infos })
  waits_on w infos = record { waits = w.waits; given = w.given; signers = w.signers; stated = all_stay c.views i.statement.view c.replies w.stated; short = λ b v is. short b v (view_numbered c.views b.view) refl is }
    where
      lacks : (b : Answer) (v : View) → view_numbered c.views b.view ≡ None → nat_le (quorum v) (have v c.replies b) ≡ false
      lacks b v unknown =
          let none = filter_alike (has_answer c.replies b) (λ member. false) (λ member. none_of c.views c.replies b member w.stated unknown) v.members ∙ filter_none v.members in
          ap (λ (ms : List ℕ). nat_le (quorum v) (length ms)) none ∙ few (length v.members + v.f)

      short : (b : Answer) (v : View) (found : Option View) → view_numbered c.views b.view ≡ found → view_numbered (c.views ++ i.statement.view ∷ []) b.view ≡ Some v → nat_le (quorum v) (have v c.replies b) ≡ false
      short b v None unknown is = lacks b v unknown
      short b v (Some u) at is = w.short b v (at ∙ sym (known_stays c.views i.statement.view b.view u at) ∙ is)

  -- whatever the client makes of it, it accepts nothing and waits on
  abbrev GoesOn : Heard → Type 0
  GoesOn h = (accepted_in h ≡ None) × (Waits secret q past c → Waits secret q past (after_told c i h))

  told_on : GoesOn (told secret c i)
  unfolding told
  told_on = by (why_untold secret c i)
    where
      by_count : (t : Bool) (number have need : ℕ) → GoesOn (cond t (hears.Moved number) (hears.Viewed have need))
      by_count true number have need = (refl, λ w. waits_on w (with_info c.infos i))
      by_count false number have need = (refl, λ w. record { waits = w.waits; given = w.given; signers = w.signers; stated = w.stated; short = w.short })

      by : (why : Option Ignored) → GoesOn (told_unless c i why)
      by (Some why) = (refl, λ w. w)
      by None = by_count _ _ _ _

-- ---- words that come one after the other

-- what is accepted is the first that a quorum gave
first_accepted : (secret : List ℕ) (q : Request) (past : List Came) (c : Client) (ws : List Word) → Waits secret q past c → accepted_of secret c ws ≡ first_given secret q past (came_to secret c ws)
first_accepted secret q past c [] w = refl
first_accepted secret q past c (words.View i ∷ ws) w =
    let on = told_on secret q past c i in
    ap (λ (x : Option Acceptance). or_else x (accepted_of secret (after_told c i (told secret c i)) ws)) on.0 ∙ first_accepted secret q past (after_told c i (told secret c i)) ws (on.1 w)
first_accepted secret q past c (words.Reply a ∷ ws) w = elim (step_heard secret q past c a w) [
  | inl done ↦ taken done.0 done.1
  | inr on ↦ waits on.0 on.1 (first_accepted secret q (past ++ came c a ∷ []) (after_heard c a (heard secret c a)) ws on.2)
]
  where
    taken : accepted_in (heard secret c a) ≡ Some (acceptance q a.statement) → quorum_gave secret q (past ++ came c a ∷ []) c.views a.statement ≡ true
        → accepted_of secret c (words.Reply a ∷ ws) ≡ first_given secret q past (came_to secret c (words.Reply a ∷ ws))
    taken is gives = cc

    waits : accepted_in (heard secret c a) ≡ None → quorum_gave secret q (past ++ came c a ∷ []) c.views a.statement ≡ false
        → accepted_of secret (after_heard c a (heard secret c a)) ws ≡ first_given secret q (past ++ came c a ∷ []) (came_to secret (after_heard c a (heard secret c a)) ws)
        → accepted_of secret c (words.Reply a ∷ ws) ≡ first_given secret q past (came_to secret c (words.Reply a ∷ ws))
    waits is gives rest = cc

-- where nothing is accepted no reply has a quorum
none_accepted : (secret : List ℕ) (q : Request) (past : List Came) (c : Client) (ws : List Word) → Waits secret q past c
    → accepted_of secret c ws ≡ None → (b : Answer) → quorum_gave secret q (past ++ came_to secret c ws) (after_words secret c ws).views b ≡ false
none_accepted secret q past c [] w none b =
    subst (λ (rs : List Came). quorum_gave secret q rs c.views b ≡ false) (sym (append-nil past)) (none_gave secret q past c.views c.replies b (w.given b) (w.short b))
none_accepted secret q past c (words.View i ∷ ws) w none b =
    let on = told_on secret q past c i in
    none_accepted secret q past (after_told c i (told secret c i)) ws (on.1 w) (sym (ap (λ (x : Option Acceptance). or_else x (accepted_of secret (after_told c i (told secret c i)) ws)) on.0) ∙ none) b
none_accepted secret q past c (words.Reply a ∷ ws) w none b = elim (step_heard secret q past c a w) [
  | inl done ↦ absurd (taken done.0)
  | inr on ↦ waits on.0 (λ later. none_accepted secret q (past ++ came c a ∷ []) (after_heard c a (heard secret c a)) ws on.2 later b)
]
  where
    next : Client
    next = after_heard c a (heard secret c a)

    taken : accepted_in (heard secret c a) ≡ Some (acceptance q a.statement) → ⊥
    taken is = wrong (sym (ap (λ (x : Option Acceptance). or_else x (accepted_of secret next ws)) is) ∙ none)
      where
        wrong : Some (acceptance q a.statement) ≡ None → ⊥
        wrong same = cc

    waits : accepted_in (heard secret c a) ≡ None
        → (accepted_of secret next ws ≡ None → quorum_gave secret q ((past ++ came c a ∷ []) ++ came_to secret next ws) (after_words secret next ws).views b ≡ false)
        → quorum_gave secret q (past ++ came_to secret c (words.Reply a ∷ ws)) (after_words secret c (words.Reply a ∷ ws)).views b ≡ false
    waits is rest =
        subst (λ (rs : List Came). quorum_gave secret q rs (after_words secret next ws).views b ≡ false) (append_assoc past (came c a ∷ []) (came_to secret next ws))
        (rest (sym (ap (λ (x : Option Acceptance). or_else x (accepted_of secret next ws)) is) ∙ none))

-- ---- a client that asks

asking_waits : (secret : List ℕ) (c : Client) (q : Request) → Waits secret q [] (asking c q)
asking_waits secret c q =
    record {
      waits = refl;
      given = λ b member. refl;
      signers = λ member. refl;
      stated = tt;
      short = λ b v is. rw (filter_none v.members) (few (length v.members + v.f));
    }

pub asked_exact : (secret : List ℕ) (c : Client) (q : Request) (ws : List Word) → accepted_of secret (asking c q) ws ≡ first_given secret q [] (came_to secret (asking c q) ws)
asked_exact secret c q ws = first_accepted secret q [] (asking c q) ws (asking_waits secret c q)

pub asked_complete : (secret : List ℕ) (c : Client) (q : Request) (ws : List Word) → accepted_of secret (asking c q) ws ≡ None → (b : Answer)
    → quorum_gave secret q (came_to secret (asking c q) ws) (after_words secret (asking c q) ws).views b ≡ false
asked_complete secret c q ws none b = none_accepted secret q [] (asking c q) ws (asking_waits secret c q) none b
