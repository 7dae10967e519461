-- Each move keeps the rule.
use Rattle.std.proofs.Common.{◌≡◌, ◌≢◌, ◌<◌, ◌≤◌, ◌+◌, ◌^◌, ℕ, true, false, true≢false, List, [], ◌∷◌, ◌++◌, length, set, refl, sym, ap, ◌∙◌, subst, append_assoc, length-append, arith}
use Rattle.crossbeam_queue.specs.Fifo.{Pushes, Pops, Forks, Merges, Learns}
use Rattle.crossbeam_queue.proofs.Lists.{set_again}
use Rattle.queue_ends.specs.declared.rule.Known.{Known}
use Rattle.queue_ends.specs.Rule.{IsFront, known, putting, taking, telling, Fits, IsInOrder}
use Rattle.queue_ends.proofs.Fronts.{front-same, front-grows, front-length}
use Rattle.queue_ends.proofs.Views.{off, All, all-set, all-snoc, at-other}

module _ {T : Type 0} where
  -- a pass that may do nothing and knows nothing
  idle : (putter taker : ℕ) (put taken : List T) (pass : ℕ) → Fits putter taker put taken pass (telling [] [])
  idle putter taker put taken pass = record { all_put = λ p. absurd (off p); all_taken = λ p. absurd (off p); front_put = refl; front_taken = refl }

  pub begins : IsInOrder {T = T} [] (known true true [] [] ∷ [])
  begins = record {
    putter = 0;
    taker = 0;
    put = [];
    taken = [];
    order = refl;
    few = omega arith;
    fits = all-snoc (Fits 0 0 [] []) [] (known true true [] []) (λ j u e. absurd (cc)) record { all_put = λ _. (refl, refl); all_taken = λ _. (refl, refl); front_put = refl; front_taken = refl };
  }

  pub puts : (n pass : ℕ) (v : Known T) (x : T) → v.puts ≡ true → length v.put < 2 ^ 62 → Pushes IsInOrder n pass v x (λ w. w ≡ known v.puts v.takes (v.put ++ x ∷ []) v.taken)
  puts n pass v x may few items views _ h at =
      let w : Known T = known v.puts v.takes (v.put ++ x ∷ []) v.taken in
      let mine = h.fits pass v at in
      let put = h.put ++ x ∷ [] in
      let same : v.put ≡ h.put = (mine.all_put may).1 in
      let long : length v.put ≡ length h.put = ap length same in
      let new : v.put ++ x ∷ [] ≡ put = ap (λ l. l ++ x ∷ []) same in (
        w,
        record {
          putter = h.putter;
          taker = h.taker;
          put = put;
          taken = h.taken;
          order = ap (λ l. l ++ x ∷ []) h.order ∙ append_assoc h.taken items (x ∷ []);
          few = omega (arith, length-append h.put (x ∷ []), long, few);
          fits = all-set (Fits h.putter h.taker put h.taken) views pass w
              record { all_put = λ _. ((mine.all_put may).0, new); all_taken = mine.all_taken; front_put = front-same (v.put ++ x ∷ []) put new; front_taken = mine.front_taken }
              (λ j u other e. let his = h.fits j u e in record {
                all_put = λ p. absurd (other ((his.all_put p).0 ∙ sym (mine.all_put may).0));
                all_taken = his.all_taken;
                front_put = front-grows h.put (x ∷ []) u.put his.front_put;
                front_taken = his.front_taken;
              });
        },
        refl,
      )

  pub full : (pass : ℕ) (v : Known T) → v.puts ≡ true → Learns IsInOrder pass v (λ items. length v.taken + length items ≤ length v.put)
  full pass v may items views h at =
      let mine = h.fits pass v at in
      let same : length v.put ≡ length h.put = ap length (mine.all_put may).1 in
      let all : length h.put ≡ length (h.taken ++ items) = ap length h.order in omega (arith, length-append h.taken items, same, all, front-length h.taken v.taken mine.front_taken)

  pub takes : (pass : ℕ) (v : Known T) → v.takes ≡ true → Pops IsInOrder pass v (λ x w. (w ≡ known v.puts v.takes v.put (v.taken ++ x ∷ [])) × (length (v.taken ++ x ∷ []) ≤ 2 ^ 62))
  takes pass v may x items views h at =
      let w : Known T = known v.puts v.takes v.put (v.taken ++ x ∷ []) in
      let mine = h.fits pass v at in
      let taken = h.taken ++ x ∷ [] in
      let order : h.put ≡ taken ++ items = h.order ∙ sym (append_assoc h.taken (x ∷ []) items) in
      let new : v.taken ++ x ∷ [] ≡ taken = ap (λ l. l ++ x ∷ []) (mine.all_taken may).1 in
      let long : length (v.taken ++ x ∷ []) ≡ length taken = ap length new in
      let all : length h.put ≡ length (taken ++ items) = ap length order in (
        w,
        record {
          putter = h.putter;
          taker = h.taker;
          put = h.put;
          taken = taken;
          order = order;
          few = h.few;
          fits = all-set (Fits h.putter h.taker h.put taken) views pass w
              record { all_put = mine.all_put; all_taken = λ _. ((mine.all_taken may).0, new); front_put = mine.front_put; front_taken = front-same (v.taken ++ x ∷ []) taken new }
              (λ j u other e. let his = h.fits j u e in record {
                all_put = his.all_put;
                all_taken = λ p. absurd (other ((his.all_taken p).0 ∙ sym (mine.all_taken may).0));
                front_put = his.front_put;
                front_taken = front-grows h.taken (x ∷ []) u.taken his.front_taken;
              });
        },
        (refl, omega (arith, length-append taken items, long, all, h.few)),
      )

  pub empty : (pass : ℕ) (v : Known T) → v.takes ≡ true → Learns IsInOrder pass v (λ items. IsFront v.put (v.taken ++ items))
  empty pass v may items views h at =
      let mine = h.fits pass v at in
      let same : h.put ≡ v.taken ++ items = h.order ∙ ap (λ l. l ++ items) (sym (mine.all_taken may).1) in subst (λ l. IsFront v.put l) same mine.front_put

  pub was_put : (pass : ℕ) (v : Known T) → v.puts ≡ true → Learns IsInOrder pass v (λ items. IsFront v.taken v.put)
  was_put pass v may items views h at =
      let mine = h.fits pass v at in
      let same : h.taken ++ items ≡ v.put = sym h.order ∙ sym (mine.all_put may).1 in subst (λ l. IsFront v.taken l) same (front-grows h.taken items v.taken mine.front_taken)

  pub totals : (pass : ℕ) (v : Known T) → v.puts ≡ true → v.takes ≡ true → Learns IsInOrder pass v (λ items. v.put ≡ v.taken ++ items)
  totals pass v a b items views h at = let mine = h.fits pass v at in (mine.all_put a).1 ∙ h.order ∙ ap (λ l. l ++ items) (sym (mine.all_taken b).1)

  pub forks : (pass : ℕ) (v : Known T) → v.puts ≡ true → v.takes ≡ true → Forks IsInOrder pass v (putting v.put v.taken) (taking v.put v.taken)
  forks pass v a b items views h at =
      let left : Known T = putting v.put v.taken in
      let right : Known T = taking v.put v.taken in
      let mine = h.fits pass v at in
      let changed : List (Known T) = set views pass left in
      let Old : ℕ → Known T → Type 0 = Fits h.putter (length changed) h.put h.taken in
      record {
        putter = h.putter;
        taker = length changed;
        put = h.put;
        taken = h.taken;
        order = h.order;
        few = h.few;
        fits = all-snoc Old changed right
            (all-set Old views pass left record { all_put = λ _. mine.all_put a; all_taken = λ p. absurd (off p); front_put = mine.front_put; front_taken = mine.front_taken }
            (λ j u other e. let his = h.fits j u e in record {
              all_put = his.all_put;
              all_taken = λ p. absurd (other ((his.all_taken p).0 ∙ sym (mine.all_taken b).0));
              front_put = his.front_put;
              front_taken = his.front_taken;
            }))
            record { all_put = λ p. absurd (off p); all_taken = λ _. (refl, (mine.all_taken b).1); front_put = mine.front_put; front_taken = mine.front_taken };
      }

  pub merges : (pass : ℕ) (v : Known T) (other : ℕ) (u : Known T) → v.puts ≡ true → u.takes ≡ true → Merges IsInOrder pass v other u (known true true v.put u.taken) (telling [] [])
  merges pass v other u a b items views h at two at' =
      let both : Known T = known true true v.put u.taken in
      let mine = h.fits pass v at in
      let theirs = h.fits other u (at-other views pass other both u two at') in
      let New : ℕ → Known T → Type 0 = Fits h.putter pass h.put h.taken in
      let Now : ℕ → Known T → Type 0 = λ j y. j ≢ other → New j y in
      let now : All Now (set views pass both) = all-set Now views pass both
      (λ _. record { all_put = λ _. mine.all_put a; all_taken = λ _. (refl, (theirs.all_taken b).1); front_put = mine.front_put; front_taken = theirs.front_taken })
      (λ j y _ e apart. let his = h.fits j y e in record {
        all_put = his.all_put;
        all_taken = λ p. absurd (apart ((his.all_taken p).0 ∙ sym (theirs.all_taken b).0));
        front_put = his.front_put;
        front_taken = his.front_taken;
      }) in
      record {
        putter = h.putter;
        taker = pass;
        put = h.put;
        taken = h.taken;
        order = h.order;
        few = h.few;
        fits = all-set New (set views pass both) other (telling [] []) (idle h.putter pass h.put h.taken other) (λ j y apart e. now j y e apart);
      }

  -- one pass changes to a view that fits too, and another may do nothing any more
  hears : (pass : ℕ) (other : ℕ) (both : Known T) (items : List T) (views : List (Known T)) (h : IsInOrder items views) → Fits h.putter h.taker h.put h.taken pass both
      → IsInOrder items (set (set views pass both) other (telling [] []))
  hears pass other both items views h fits =
      let Now : ℕ → Known T → Type 0 = Fits h.putter h.taker h.put h.taken in
      let now : All Now (set views pass both) = all-set Now views pass both fits (λ j y _ e. h.fits j y e) in
      record {
        putter = h.putter;
        taker = h.taker;
        put = h.put;
        taken = h.taken;
        order = h.order;
        few = h.few;
        fits = all-set Now (set views pass both) other (telling [] []) (idle h.putter h.taker h.put h.taken other) (λ j y _ e. now j y e);
      }

  pub hears_put : (pass : ℕ) (v : Known T) (other : ℕ) (u : Known T) → v.takes ≡ true → Merges IsInOrder pass v other u (taking u.put v.taken) (telling [] [])
  hears_put pass v other u b items views h at two at' =
      let both : Known T = taking u.put v.taken in
      let mine = h.fits pass v at in
      let theirs = h.fits other u (at-other views pass other both u two at') in
      hears pass other both items views h record { all_put = λ p. absurd (off p); all_taken = λ _. mine.all_taken b; front_put = theirs.front_put; front_taken = mine.front_taken }

  pub hears_taken : (pass : ℕ) (v : Known T) (other : ℕ) (u : Known T) → v.puts ≡ true → Merges IsInOrder pass v other u (putting v.put u.taken) (telling [] [])
  hears_taken pass v other u a items views h at two at' =
      let both : Known T = putting v.put u.taken in
      let mine = h.fits pass v at in
      let theirs = h.fits other u (at-other views pass other both u two at') in
      hears pass other both items views h record { all_put = λ _. mine.all_put a; all_taken = λ p. absurd (off p); front_put = mine.front_put; front_taken = theirs.front_taken }

  pub tells : (pass : ℕ) (v : Known T) → Forks IsInOrder pass v v (telling v.put v.taken)
  tells pass v items views h at =
      let mine = h.fits pass v at in
      let Now : ℕ → Known T → Type 0 = Fits h.putter h.taker h.put h.taken in
      record {
        putter = h.putter;
        taker = h.taker;
        put = h.put;
        taken = h.taken;
        order = h.order;
        few = h.few;
        fits = all-snoc Now (set views pass v) (telling v.put v.taken) (subst (All Now) (sym (set_again views pass v at)) h.fits)
            record { all_put = λ p. absurd (off p); all_taken = λ p. absurd (off p); front_put = mine.front_put; front_taken = mine.front_taken };
      }
