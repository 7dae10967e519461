-- A store that does not switch keeps a front of its book, to which the running group and the waiting entries are added in order.
use Rattle.std.proofs.Common.{◌≡◌, ◌⊎◌, inl, inr, ℕ, nat_lt, Bool, true, false, cond, List, [], ◌∷◌, ◌++◌, length, drop, Option, None, refl, sym, ◌∙◌, ap, subst}
use Rattle.std.proofs.lemmas.List.{append_assoc, append-nil}
use Rattle.store_form.specs.declared.checkpoint.Checkpoint.{Checkpoint}
use Rattle.store_laws.specs.Restored.{Images, restores, with}
use Rattle.store_laws.specs.States.{StoreState, greatest, is_torn, Begun, Close, Repair, AddGroup, of_group, of_asked, group_of, due_job, begins, advanced, ends, job_called, MayLeave, store_opened, given}
use Rattle.store_laws.specs.Lives.{Either}
use Rattle.store_laws.specs.Stands.{Aim, at_rest, IsOwn, aim_called, aim_after, aim_begins}
use Rattle.store_laws.specs.Books.{GrownBy, Grown, BooksBy, Books, IsFront}
use Rattle.store_laws.specs.declared.job.Kept.{Kept}
use Rattle.store_laws.specs.declared.job.Tail.{Tail}
use Rattle.store_laws.specs.declared.job.Ending.{Ending}
use Rattle.store_laws.specs.declared.job.Ending.TheVariants.{Closes, Repairs, Adds, Switches}
use Rattle.store_laws.specs.declared.job.StoreCall.{StoreCall}
use Rattle.store_laws.specs.declared.job.StoreCall.TheVariants.{On, WriteTail}
use Rattle.store_laws.proofs.Restores.{next_restores}
use Rattle.store_laws.proofs.Goes.{own_leaves}

-- ---- a store is opened, a job begins

pub books_opened : (images : Images) (kept other : Kept) (next : Checkpoint) → Books kept.entries kept.present (store_opened images) (at_rest kept other next)
books_opened images kept other next = record { present_is = refl; all = append-nil kept.entries; calm = refl; plain = tt; grown = refl }

-- the first entries that wait are the group
pub group_front : (stops : List ℕ → Bool) (xs : List (List ℕ)) → group_of stops xs ++ drop (length (group_of stops xs)) xs ≡ xs
group_front stops [] = refl
group_front stops (x ∷ xs) = by (stops x) (group_front stops xs)
  where
    by : (t : Bool) → group_of stops xs ++ drop (length (group_of stops xs)) xs ≡ xs → cond t [] (x ∷ group_of stops xs) ++ drop (length (cond t [] (x ∷ group_of stops xs))) (x ∷ xs) ≡ x ∷ xs
    by true rest = refl
    by false rest = ap (λ (l : List (List ℕ)). x ∷ l) rest

pub none_asked : (t : Bool) (asked : Option (List ℕ)) → asked ≡ None → cond t asked None ≡ None
none_asked true asked is = is
none_asked false asked is = refl

module _ (stops : List ℕ → Bool) (book : List (List ℕ)) (present : Option Checkpoint) (s : StoreState) (a : Aim) (idle : s.running ≡ []) (b : Books book present s a) where
  at_rest_now : s.adding ≡ []
  at_rest_now = subst (λ (calls : List StoreCall). Grown calls s.ending s.adding a) idle b.grown

  kept_all : a.kept.entries ++ s.waiting ≡ book
  kept_all = ap (λ (l : List (List ℕ)). a.kept.entries ++ (l ++ s.waiting)) (sym at_rest_now) ∙ b.all

  abbrev Begins : Begun → Type 0
  Begins job = Books book present (begins job s) (aim_begins job s a)

  close : (odd : Bool) → Begins (Close odd)
  close odd = record { present_is = b.present_is; all = kept_all; calm = b.calm; plain = tt; grown = (refl, refl) }

  repair : Begins Repair
  repair = record { present_is = b.present_is; all = kept_all; calm = b.calm; plain = tt; grown = (refl, refl) }

  group : (entries : List (List ℕ)) → entries ++ drop (length entries) s.waiting ≡ s.waiting → Begins (AddGroup entries)
  group entries front = record {
    present_is = b.present_is;
    all = ap (λ (l : List (List ℕ)). a.kept.entries ++ l) front ∙ kept_all;
    calm = b.calm;
    plain = tt;
    grown = (refl, (refl, inl refl));
  }

  last : (entries : List (List ℕ)) → entries ++ drop (length entries) s.waiting ≡ s.waiting → Begins (of_group entries)
  last [] front = b
  last (entry ∷ entries) front = group (entry ∷ entries) front

  asked_last : Begins (of_asked (cond (nat_lt s.generation greatest) s.asked None) (of_group (group_of stops s.waiting)))
  asked_last =
      subst (λ (asked : Option (List ℕ)). Begins (of_asked asked (of_group (group_of stops s.waiting)))) (sym (none_asked (nat_lt s.generation greatest) s.asked b.calm))
      (last (group_of stops s.waiting) (group_front stops s.waiting))

  choose : (even odd torn : Bool) → Begins (cond even (Close false) (cond odd (Close true) (cond torn Repair (of_asked (cond (nat_lt s.generation greatest) s.asked None) (of_group (group_of stops s.waiting))))))
  choose true odd torn = close false
  choose false true torn = close true
  choose false false true = repair
  choose false false false = asked_last

  pub books_begins_by : Begins (due_job stops s)
  books_begins_by = choose (is_torn s.even) (is_torn s.odd) s.torn

pub books_begins : (stops : List ℕ → Bool) (book : List (List ℕ)) (present : Option Checkpoint) (s : StoreState) (a : Aim) → s.running ≡ [] → Books book present s a
    → Books book present (begins (due_job stops s) s) (aim_begins (due_job stops s) s a)
books_begins stops book present s a idle b = books_begins_by stops book present s a idle b

-- ---- the next call

gated_now : (ending : Ending) (adding : List (List ℕ)) (a : Aim) → GrownBy ending adding a → GrownBy ending adding (record { kept = a.kept; stake = a.gated; gated = a.gated; then = a.then; next = a.next })
gated_now (Closes odd) adding a g = g
gated_now Repairs adding a g = g
gated_now (Adds end) adding a g = (g.0, (g.1.0, inr g.1.0))
gated_now (Switches end last) adding a g = g

-- the job goes on
books_more : (book : List (List ℕ)) (present : Option Checkpoint) (s : StoreState) (a : Aim) (tail : Tail) (call more : StoreCall) (left : List StoreCall) → BooksBy (call ∷ more ∷ left) book present s a
    → BooksBy (more ∷ left) book present (advanced tail call (more ∷ left) s) (aim_called tail call (more ∷ left) a)
books_more book present s a tail (On device call) more [] b = record { present_is = b.present_is; all = b.all; calm = b.calm; plain = b.plain; grown = gated_now s.ending s.adding a b.grown }
books_more book present s a tail (On device call) more (next ∷ left) b = record { present_is = b.present_is; all = b.all; calm = b.calm; plain = b.plain; grown = b.grown }
books_more book present s a tail WriteTail more left b = absurd b.plain

-- the job ends
books_end : (ending : Ending) (book : List (List ℕ)) (present : Option Checkpoint) (s : StoreState) (a : Aim) (other : Kept) → a.kept.present ≡ present → a.kept.entries ++ (s.adding ++ s.waiting) ≡ book → s.asked ≡ None → GrownBy ending s.adding a
    → Books book present (ends ending s) (at_rest a.then other a.next)
books_end (Closes odd) book present s a other is all calm g = record {
  present_is = ap (λ (k : Kept). k.present) g.1 ∙ is;
  all = ap (λ (k : Kept). k.entries ++ s.waiting) g.1 ∙ ap (λ (l : List (List ℕ)). a.kept.entries ++ (l ++ s.waiting)) (sym g.0) ∙ all;
  calm = calm;
  plain = tt;
  grown = refl;
}
books_end Repairs book present s a other is all calm g = record {
  present_is = ap (λ (k : Kept). k.present) g.1 ∙ is;
  all = ap (λ (k : Kept). k.entries ++ s.waiting) g.1 ∙ ap (λ (l : List (List ℕ)). a.kept.entries ++ (l ++ s.waiting)) (sym g.0) ∙ all;
  calm = calm;
  plain = tt;
  grown = refl;
}
books_end (Adds end) book present s a other is all calm g = record {
  present_is = ap (λ (k : Kept). k.present) g.0 ∙ is;
  all = ap (λ (k : Kept). k.entries ++ s.waiting) g.0 ∙ append_assoc a.kept.entries s.adding s.waiting ∙ all;
  calm = calm;
  plain = tt;
  grown = refl;
}
books_end (Switches end last) book present s a other is all calm g = absurd g

pub books_goes : (book : List (List ℕ)) (present : Option Checkpoint) (s : StoreState) (a : Aim) (tail : Tail) (call : StoreCall) (left : List StoreCall) (other : Kept) → BooksBy (call ∷ left) book present s a
    → Books book present (job_called tail (call ∷ left) s) (aim_after left other (aim_called tail call left a))
books_goes book present s a tail (On device call) [] other b =
    books_end s.ending book present (advanced tail (On device call) [] s) (aim_called tail (On device call) [] a) other b.present_is b.all b.calm b.grown
books_goes book present s a tail WriteTail [] other b = absurd b.plain
books_goes book present s a tail call (more ∷ left) other b = books_more book present s a tail call more left b

-- ---- what is given, and a crash

pub books_given : (book : List (List ℕ)) (present : Option Checkpoint) (s : StoreState) (a : Aim) (entries : List (List ℕ)) → Books book present s a → Books (book ++ entries) present (given entries s) a
books_given book present s a entries b = record {
  present_is = b.present_is;
  all =
      ap (λ (l : List (List ℕ)). a.kept.entries ++ l) (sym (append_assoc s.adding s.waiting entries))
      ∙ sym (append_assoc a.kept.entries (s.adding ++ s.waiting) entries)
      ∙ ap (λ (l : List (List ℕ)). l ++ entries) b.all;
  calm = b.calm;
  plain = b.plain;
  grown = b.grown;
}

front_of : (book : List (List ℕ)) (present : Option Checkpoint) (x kept : Kept) (rest : List (List ℕ)) → x ≡ kept → kept.present ≡ present → kept.entries ++ rest ≡ book → IsFront book present x
front_of book present x kept rest same is all =
    let now : with kept rest ≡ record { present = present; entries = book } = λ i. record { present = is i; entries = all i } in
    record { rest = rest; is = ap (λ (k : Kept). with k rest) same ∙ now }

pub books_crash : (book : List (List ℕ)) (present : Option Checkpoint) (s : StoreState) (a : Aim) → Books book present s a → IsOwn s a → (images : Images) → MayLeave s.devices images
    → IsFront book present (restores images) ⊎ (restores images ≡ a.stake)
books_crash book present s a b own images may = by (next_restores images a.kept a.stake (own_leaves s a own images may))
  where
    by : Either images a.kept a.stake → IsFront book present (restores images) ⊎ (restores images ≡ a.stake)
    by (inl is) = inl (front_of book present (restores images) a.kept (s.adding ++ s.waiting) is b.present_is b.all)
    by (inr is) = inr is

-- while a group runs, what is at stake is a front of the book, too
pub books_stake : (book : List (List ℕ)) (present : Option Checkpoint) (s : StoreState) (a : Aim) (call : StoreCall) (left : List StoreCall) (end : ℕ) → s.ending ≡ Adds end → BooksBy (call ∷ left) book present s a → IsFront book present a.stake
books_stake book present s a call left end adds b =
    let g : GrownBy (Adds end) s.adding a = subst (λ (e : Ending). GrownBy e s.adding a) adds b.grown in
    by g.1.1
  where
    by : (a.stake ≡ a.kept) ⊎ (a.stake ≡ with a.kept s.adding) → IsFront book present a.stake
    by (inl is) = front_of book present a.stake a.kept (s.adding ++ s.waiting) is b.present_is b.all
    by (inr is) = front_of book present a.stake (with a.kept s.adding) s.waiting is b.present_is (append_assoc a.kept.entries s.adding s.waiting ∙ b.all)
