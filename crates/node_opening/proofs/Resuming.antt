-- What a node keeps beside a book with which it begins or goes on.
use Rattle.std.proofs.Common.{◌≡◌, ℕ, ◌≤◌, ◌==◌, ◌++◌, max, true, false, List, [], ◌∷◌, length, refl, arith, None}
use Rattle.std.proofs.lemmas.Bool.{eqb-true}
use Rattle.smart_base.specs.Views.{View, present}
use Rattle.smart_service.specs.Services.{Meaning}
use Rattle.vote_book.specs.Books.{last_made}
use Rattle.vote_book.specs.declared.entry.Opening.{Opening}
use Rattle.vote_book.specs.declared.entry.LogEntry.{LogEntry}
use Rattle.vote_book.specs.declared.entry.LogEntry.TheVariants.{Opened}
use Rattle.regency_sync.specs.Synchronizers.{Synchronizer, begun as started}
use Rattle.smart_service.specs.declared.replica.Replica.{Replica}
use Rattle.replica_rules.specs.Replicas.{empty}
use Rattle.consensus_instance.specs.Instances.{Instance, first_of}
use Rattle.node_state.specs.Following.{Follows}
use Rattle.node_opening.specs.Resuming.{begun_with}

-- ---- a new node

first_follows : (id : ℕ) (view : View) (opening : Opening) → Follows id view 0 None (Opened opening ∷ []) (first_of id view []) (started id view)
first_follows id view opening = record {
  room = λ some. absurd (cc);
  instance = record {
    id_same = refl;
    view_same = refl;
    place_same = refl;
    decided_same = refl;
    regency_same = refl;
    start_same = refl;
    arrivals_same = refl;
    wrote_same = refl;
    accepted_same = refl;
  };
  member = refl;
  viewed = refl;
  regency = refl;
  synced = refl;
  made = omega (arith);
}

-- what a new member keeps follows its book, which has its opening alone
pub new_follows : {S : Type 0} (m : Meaning S) (id member : ℕ) (view own other : View) (opening : Opening) (r : Replica S) (es : List LogEntry) (i : Instance) (s : Synchronizer)
    → member ≡ id → own ≡ view → other ≡ view → r ≡ empty m view → es ≡ Opened opening ∷ [] → i ≡ first_of id own [] → s ≡ started id other → Follows member (present r.views) r.place None es i s
new_follows {S = S} m id member view own other opening r es i s is owned lent first book i_is s_is = rw (is, i_is, s_is, owned, lent, first, book) (first_follows id view opening)

-- ---- the book with which a node goes on

pub begun_some : (opening : Opening) (es : List LogEntry) → (length es == 0) ≡ false → begun_with opening es ≡ es
begun_some opening [] some = absurd (cc)
begun_some opening (e ∷ es) some = refl

pub begun_none : (opening : Opening) (es : List LogEntry) → (length es == 0) ≡ true → begun_with opening es ≡ es ++ Opened opening ∷ []
begun_none opening [] none = refl
begun_none opening (e ∷ es) none = let no : length (e ∷ es) ≡ 0 = eqb-true (length (e ∷ es)) 0 none in absurd (omega (arith, no))

pub begun_last : (opening : Opening) (es : List LogEntry) → last_made (begun_with opening es) ≡ last_made es
begun_last opening [] = refl
begun_last opening (e ∷ es) = refl

pub last_within : (past last place : ℕ) → max past last ≡ place → last ≤ place
last_within past last place is = omega (arith, is)
