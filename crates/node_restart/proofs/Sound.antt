-- The accepts among what is taken back.
use Rattle.std.proofs.Common.{◌≡◌, ◌⊎◌, inl, inr, ⊎_elim, ℕ, ◌+◌, ◌==◌, true, ◌&&◌, ◌++◌, List, [], ◌∷◌, length, Option, None, Some, sym, subst, is_none}
use Rattle.std.proofs.lemmas.Bool.{and_parts}
use Rattle.smart_base.specs.Views.{View}
use Rattle.smart_service.specs.Services.{Meaning}
use Rattle.certificates.specs.Certificates.{votes_fault, write_of}
use Rattle.vote_book.specs.Books.{Among}
use Rattle.vote_book.specs.BookReports.{lock_of}
use Rattle.vote_book.specs.Admission.{admits}
use Rattle.vote_book.specs.Entries.{FitsEntry}
use Rattle.vote_book.specs.declared.entry.Accept.{Accept}
use Rattle.vote_book.specs.declared.entry.LogEntry.{LogEntry}
use Rattle.vote_book.specs.declared.entry.LogEntry.TheVariants.{Accepted}
use Rattle.vote_book.proofs.Locks.{lock_is}
use Rattle.replica_rules.specs.Seals.{fits}
use Rattle.node_rules.specs.Arrivals.{is_batch_for}
use Rattle.node_rules.specs.Reopening.{opens_first, rests, rests_by, view_for}
use Rattle.node_restart.specs.Restarts.{Restart, may_take, took, IsSound, AreSound}

pub lock_sound : (secret : List ℕ) (view : ℕ) (entries : List LogEntry) (a : Accept) → AreSound secret entries → Some a ≡ lock_of view entries → IsSound secret a
lock_sound secret view entries a sound is = let lock = lock_is view entries a (sym is) in sound a lock.there

-- with one entry more

among_push : (x e : LogEntry) (es : List LogEntry) → Among x (es ++ e ∷ []) → Among x es ⊎ (x ≡ e)
among_push x e [] (inl is) = inr is
among_push x e [] (inr none) = absurd none
among_push x e (y ∷ ys) (inl is) = inl (inl is)
among_push x e (y ∷ ys) (inr there) = ⊎_elim (λ front. inl (inr front)) (λ is. inr is) (among_push x e ys there)

accept_sound : (secret : List ℕ) (views : List View) (past : ℕ) (before : List LogEntry) (a : Accept) → FitsEntry (Accepted a) → may_take secret views past before (Accepted a) ≡ true → IsSound secret a
accept_sound secret views past before a fits may =
    let all = and_parts (opens_first before (Accepted a) && admits past (length before + 1) before (Accepted a)) (rests secret views (Accepted a)) may in
    by (view_for views a.slot.place) all.1
  where
    by : (o : Option View) → rests_by secret o (Accepted a) ≡ true → IsSound secret a
    by None holds = absurd (cc)
    by (Some view) holds =
        let rest = and_parts ((a.slot.view == view.number) && is_none (votes_fault secret view (write_of a.slot a.digest) a.writes)) (is_batch_for secret a.slot.place a.digest a.batch) holds in
        record { fits = fits.batch_fits; stands = rest.1 }

sound_after : (secret : List ℕ) (views : List View) (past : ℕ) (before : List LogEntry) (e : LogEntry) → AreSound secret before → FitsEntry e → may_take secret views past before e ≡ true → AreSound secret (before ++ e ∷ [])
sound_after secret views past before e sound fits may a there =
    ⊎_elim (λ front. sound a front)
    (λ (is : Accepted a ≡ e). accept_sound secret views past before a (subst (λ (x : LogEntry). FitsEntry x) (sym is) fits) (subst (λ (x : LogEntry). may_take secret views past before x ≡ true) (sym is) may))
    (among_push (Accepted a) e before there)

pub sound_took : {S : Type 0} (m : Meaning S) (secret : List ℕ) (r later : Restart S) (e : LogEntry) → AreSound secret r.entries → FitsEntry e → may_take secret r.replica.views r.past r.entries e ≡ true → later ≡ took m r e
    → AreSound secret later.entries
sound_took {S = S} m secret r later e sound fits may is =
    subst (λ (x : Restart S). AreSound secret x.entries) (sym is) (sound_after secret r.replica.views r.past r.entries e sound fits may)
