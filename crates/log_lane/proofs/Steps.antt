-- Each step keeps the rule of the word.
use Rattle.std.proofs.Common.{◌≡◌, ◌≢◌, ◌<◌, ◌≤◌, ℕ, true, List, [], ◌∷◌, length, set, sym, refl, ap, ◌∙◌, subst, arith}
use Rattle.std.specs.Prelude.{slice_index}
use mathlib.Core.Option.{none}
use Rattle.atomic_table.specs.Table.{Me, step, opening, Allows, Splits, Joins, keeps}
use Rattle.atomic_table.proofs.Lists.{set_again}
use Rattle.atomic_table.specs.Seated.{TableId}
use Rattle.queue_ends.proofs.Views.{off, All, all-set, all-snoc, at-other}
use Rattle.log_lane.specs.declared.word.Known.{Known}
use Rattle.log_lane.specs.Word.{known, reading, raising, Fits, IsRaised, HasRaised, HasRead}

-- a seat that may not raise and knows nothing
idle : (raiser word seat : ℕ) → Fits raiser word seat (reading 0 0)
idle raiser word seat = record { all = λ p. absurd (off p); found = omega arith; heard = omega arith }

pub begins : IsRaised (opening {S = Unit {0}} (0 ∷ []) [] (known true 0 0))
begins = record { raiser = 0; word = 0; is = refl; fits = all-snoc (Fits 0 0) [] (known true 0 0) (λ j u e. absurd (cc)) record { all = λ _. (refl, refl); found = omega arith; heard = omega arith } }

-- the one word of a table
pub has_word : (a b : TableId) → a ≡ b → a.words ≡ 1 → 0 < b.words
has_word a b e one = subst (λ (z : TableId). 0 < z.words) e (omega arith)

module _ {S : Type 0} where
  pub raises : (slots id : ℕ) (me : Me S Known) (n : ℕ) → me.0.raises ≡ true → me.0.found ≤ n → Allows IsRaised slots id me 0 (λ _. n) (λ _. HasRaised (step slots 0 n 0 none) me n)
  raises slots id me n may more s h sized at small =
      let v = me.0 in
      let w : Known = known v.raises n v.heard in
      let mine = h.fits id v at in
      let was : v.found ≡ h.word = (mine.all may).1 in
      let low = mine.heard in (
        w,
        keeps,
        tt,
        record {
          raiser = h.raiser;
          word = n;
          is = ap (λ l. set l 0 n) h.is;
          fits = all-set (Fits h.raiser n) s.views id w record { all = λ _. ((mine.all may).0, refl); found = omega arith; heard = omega arith }
              (λ j u other e.
              let his = h.fits j u e in
              let less = his.found in
              let lower = his.heard in record { all = λ p. absurd (other ((his.all p).0 ∙ sym (mine.all may).0)); found = omega arith; heard = omega arith });
        },
        refl,
      )

  pub reads : (slots id : ℕ) (me : Me S Known) → Allows IsRaised slots id me 0 (λ n. n) (HasRead (step slots 0 0 0 none) me)
  reads slots id me s h sized at small =
      let v = me.0 in
      let n = slice_index s.words 0 in
      let w : Known = known v.raises n v.heard in
      let mine = h.fits id v at in
      let is : n ≡ h.word = ap (λ l. slice_index l 0) h.is in
      let less = mine.found in
      let lower = mine.heard in (
        w,
        keeps,
        tt,
        record {
          raiser = h.raiser;
          word = h.word;
          is = ap (λ l. set l 0 n) h.is ∙ ap (λ k. k ∷ []) is;
          fits = all-set (Fits h.raiser h.word) s.views id w record { all = λ p. ((mine.all p).0, is); found = omega arith; heard = mine.heard } (λ j u other e. h.fits j u e);
        },
        (refl, omega arith, omega arith, λ p. (mine.all p).1 ∙ sym is),
      )

  pub splits : (id : ℕ) (v : Known) → v.raises ≡ true → Splits {S = S} IsRaised id v (reading v.found v.heard) (raising v.found v.heard)
  splits id v a s h at =
      let left : Known = reading v.found v.heard in
      let right : Known = raising v.found v.heard in
      let mine = h.fits id v at in
      let changed : List Known = set s.views id left in
      let New : ℕ → Known → Type 0 = Fits (length changed) h.word in
      record {
        raiser = length changed;
        word = h.word;
        is = h.is;
        fits = all-snoc New changed right
            (all-set New s.views id left record { all = λ p. absurd (off p); found = mine.found; heard = mine.heard }
            (λ j u other e. let his = h.fits j u e in record { all = λ p. absurd (other ((his.all p).0 ∙ sym (mine.all a).0)); found = his.found; heard = his.heard }))
            record { all = λ _. (refl, (mine.all a).1); found = mine.found; heard = mine.heard };
      }

  pub joins : (id : ℕ) (v : Known) (other : ℕ) (u : Known) → u.raises ≡ true → Joins {S = S} IsRaised id v other u (raising u.found v.found) (reading 0 0)
  joins id v other u b s h at two at' =
      let both : Known = raising u.found v.found in
      let mine = h.fits id v at in
      let theirs = h.fits other u (at-other s.views id other both u two at') in
      let New : ℕ → Known → Type 0 = Fits id h.word in
      let Now : ℕ → Known → Type 0 = λ j y. j ≢ other → New j y in
      let now : All Now (set s.views id both) = all-set Now s.views id both (λ _. record { all = λ _. (refl, (theirs.all b).1); found = theirs.found; heard = mine.found })
      (λ j y _ e apart. let his = h.fits j y e in record { all = λ p. absurd (apart ((his.all p).0 ∙ sym (theirs.all b).0)); found = his.found; heard = his.heard }) in
      record {
        raiser = id;
        word = h.word;
        is = h.is;
        fits = all-set New (set s.views id both) other (reading 0 0) (idle id h.word other) (λ j y apart e. now j y e apart);
      }

  pub tells : (id : ℕ) (v : Known) → Splits {S = S} IsRaised id v v (reading 0 v.found)
  tells id v s h at =
      let mine = h.fits id v at in
      let Now : ℕ → Known → Type 0 = Fits h.raiser h.word in
      record {
        raiser = h.raiser;
        word = h.word;
        is = h.is;
        fits = all-snoc Now (set s.views id v) (reading 0 v.found) (subst (All Now) (sym (set_again s.views id v at)) h.fits)
            record { all = λ p. absurd (off p); found = omega arith; heard = mine.found };
      }

  pub hears : (id : ℕ) (v : Known) (other : ℕ) (u : Known) → Joins {S = S} IsRaised id v other u (known v.raises v.found u.heard) (reading 0 0)
  hears id v other u s h at two at' =
      let both : Known = known v.raises v.found u.heard in
      let mine = h.fits id v at in
      let theirs = h.fits other u (at-other s.views id other both u two at') in
      let Now : ℕ → Known → Type 0 = Fits h.raiser h.word in
      let now : All Now (set s.views id both) = all-set Now s.views id both record { all = mine.all; found = mine.found; heard = theirs.heard } (λ j y _ e. h.fits j y e) in
      record {
        raiser = h.raiser;
        word = h.word;
        is = h.is;
        fits = all-set Now (set s.views id both) other (reading 0 0) (idle h.raiser h.word other) (λ j y _ e. now j y e);
      }
