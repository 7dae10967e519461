-- The statements of a leader change, and those of views. What is read of each is what is spelled.
use Rattle.std.proofs.Common.{◌≡◌, ℕ, ◌<◌, ◌≤◌, ◌^◌, true, List, ◌++◌, Ok, ◌+◌, ◌*◌, [], ◌∷◌, length, refl, sym, arith}
use Rattle.std.specs.Int.{w32, w8, to_be_bytes}
use Rattle.std.specs.List.{flat_map}
use Rattle.smart_base.specs.Cuts.{Cut, Read, ◌>>=◌, number_at}
use Rattle.smart_base.specs.Fields.{kind_at}
use Rattle.smart_base.specs.Spelling.{u8, u32, member_kind, u16, Law}
use Rattle.smart_base.specs.Views.{is_view, View}
use Rattle.smart_base.specs.ViewBytes.{view_text, view_at}
use Rattle.smart_base.specs.Laws.{then_law, last_law, refit}
use Rattle.smart_base.specs.FieldLaws.{u32_law, kind_law}
use Rattle.smart_base.proofs.ViewLaws.{view_law, members-few}
use Rattle.smart_statements.specs.Forms.{Form, SignedBy}
use Rattle.smart_statements.specs.SignedLists.{listed, FitsList, list_at}
use Rattle.smart_statements.specs.Reports.{reports, FitsReport}
use Rattle.smart_statements.specs.SignedListLaws.{list_law}
use Rattle.smart_statements.specs.ReportLaws.{report_law}
use Rattle.smart_statements.specs.declared.report.Report.{Report}
use Rattle.smart_messages.specs.declared.regency.Stop.{Stop}
use Rattle.smart_messages.specs.declared.regency.Sync.{Sync}
use Rattle.smart_messages.specs.declared.regency.ViewInfo.{ViewInfo}

-- ---- stops

-- the bytes of a STOP
abbrev pub stop : Stop → List ℕ
stop s = u8 4 ++ (u32 s.view ++ u32 s.regency)

pub record FitsStop (s : Stop) : Type 0 where
  pub view_fits : s.view < 2 ^ 32
  pub regency_fits : s.regency < 2 ^ 32

unfoldable pub stop_at : ℕ → Cut → Read Stop
stop_at signer c = do
  k ← kind_at 4 c
  v ← number_at w32 k.1
  r ← number_at w32 v.1
  Ok (record { view = v.0; regency = r.0 }, r.1)

-- STOP as a kind of statement
abbrev pub stops : Form Stop
stops = record { kind = member_kind; spell = stop; read = stop_at }

abbrev make_stop : ℕ → ℕ → Stop
make_stop v r = record { view = v; regency = r }

stop_is : (s : Stop) (v : ℕ) → s.view ≡ v → make_stop v s.regency ≡ s
stop_is s v e = rw (← e) refl

pub stop_law : (signer : ℕ) → Law FitsStop stop (stop_at signer)
unfolding stop_at
stop_law signer =
    refit _ FitsStop stop (stop_at signer)
    (then_law (λ (s : Stop). 4) (λ s. Unit {0}) (λ n. (n ≡ 4) × (n < 2 ^ 8)) (to_be_bytes w8) (kind_at 4) _ _ _ (kind_law 4) λ k is_k.
    then_law (λ (s : Stop). s.view) (λ s. Unit {0} × (4 ≡ k)) (λ n. n < 2 ^ 32) (to_be_bytes w32) (number_at w32) _ _ _ u32_law λ v is_v.
    last_law (λ (s : Stop). s.regency) (λ s. (Unit {0} × (4 ≡ k)) × (s.view ≡ v)) (λ n. n < 2 ^ 32) (to_be_bytes w32) (number_at w32)
    (λ r. make_stop v r) u32_law
    (λ r h. ((tt, sym is_k.0), refl)) (λ r. refl) (λ s h. stop_is s v h.1))
    (λ s h. record { view_fits = h.1.1.0; regency_fits = h.1.1.1 })
    (λ s h. (tt, ((refl, omega arith), (h.view_fits, h.regency_fits))))

pub stop_small : (s : Stop) → length (stop s) < 2 ^ 32
stop_small s = let long : length (stop s) ≡ 9 = omega arith in omega (arith, long)

-- ---- what a leader begins its regency with

-- the bytes of a SYNC
abbrev pub sync : Sync → List ℕ
sync s = u8 6 ++ (u32 s.view ++ (u32 s.regency ++ listed reports s.collect))

pub record FitsSync (s : Sync) : Type 0 where
  pub view_fits : s.view < 2 ^ 32
  pub regency_fits : s.regency < 2 ^ 32
  pub collect_fits : FitsList reports (λ signer. FitsReport) s.collect

unfoldable pub sync_at : ℕ → Cut → Read Sync
sync_at signer c = do
  k ← kind_at 6 c
  v ← number_at w32 k.1
  r ← number_at w32 v.1
  l ← list_at reports r.1
  Ok (record { view = v.0; regency = r.0; collect = l.0 }, l.1)

-- SYNC as a kind of statement
abbrev pub syncs : Form Sync
syncs = record { kind = member_kind; spell = sync; read = sync_at }

abbrev make_sync : ℕ → ℕ → List (SignedBy Report) → Sync
make_sync v r l = record { view = v; regency = r; collect = l }

sync_is : (s : Sync) (v r : ℕ) → s.view ≡ v → s.regency ≡ r → make_sync v r s.collect ≡ s
sync_is s v r e f = rw (← e, ← f) refl

pub sync_law : (signer : ℕ) → Law FitsSync sync (sync_at signer)
unfolding sync_at
sync_law signer =
    refit _ FitsSync sync (sync_at signer)
    (then_law (λ (s : Sync). 6) (λ s. Unit {0}) (λ n. (n ≡ 6) × (n < 2 ^ 8)) (to_be_bytes w8) (kind_at 6) _ _ _ (kind_law 6) λ k is_k.
    then_law (λ (s : Sync). s.view) (λ s. Unit {0} × (6 ≡ k)) (λ n. n < 2 ^ 32) (to_be_bytes w32) (number_at w32) _ _ _ u32_law λ v is_v.
    then_law (λ (s : Sync). s.regency) (λ s. (Unit {0} × (6 ≡ k)) × (s.view ≡ v)) (λ n. n < 2 ^ 32) (to_be_bytes w32) (number_at w32) _ _ _
    u32_law λ r is_r.
    last_law (λ (s : Sync). s.collect) (λ s. ((Unit {0} × (6 ≡ k)) × (s.view ≡ v)) × (s.regency ≡ r))
    (FitsList reports (λ signer. FitsReport)) (listed reports) (list_at reports)
    (λ l. make_sync v r l) (list_law reports (λ signer. FitsReport) (omega arith) report_law)
    (λ l h. (((tt, sym is_k.0), refl), refl)) (λ l. refl) (λ s h. sync_is s v r h.0.1 h.1))
    (λ s h. record { view_fits = h.1.1.0; regency_fits = h.1.1.1.0; collect_fits = h.1.1.1.1 })
    (λ s h. (tt, ((refl, omega arith), (h.view_fits, (h.regency_fits, h.collect_fits)))))

-- ---- views

-- the bytes of a view's statement
abbrev pub view_info : ViewInfo → List ℕ
view_info i = u8 10 ++ view_text i.view

abbrev pub FitsViewInfo : ViewInfo → Type 0
FitsViewInfo i = is_view i.view ≡ true

unfoldable pub view_info_at : ℕ → Cut → Read ViewInfo
view_info_at signer c = do
  k ← kind_at 10 c
  v ← view_at k.1
  Ok (record { view = v.0 }, v.1)

-- a member's statement of a view, as a kind of statement
abbrev pub view_infos : Form ViewInfo
view_infos = record { kind = member_kind; spell = view_info; read = view_info_at }

abbrev make_view_info : View → ViewInfo
make_view_info v = record { view = v }

pub view_info_law : (signer : ℕ) → Law FitsViewInfo view_info (view_info_at signer)
unfolding view_info_at
view_info_law signer =
    refit _ FitsViewInfo view_info (view_info_at signer)
    (then_law (λ (i : ViewInfo). 10) (λ i. Unit {0}) (λ n. (n ≡ 10) × (n < 2 ^ 8)) (to_be_bytes w8) (kind_at 10) _ _ _ (kind_law 10) λ k is_k.
    last_law (λ (i : ViewInfo). i.view) (λ i. Unit {0} × (10 ≡ k)) (λ v. is_view v ≡ true) view_text view_at
    (λ v. make_view_info v) view_law
    (λ v h. (tt, sym is_k.0)) (λ v. refl) (λ i h. refl))
    (λ i h. h.1.1)
    (λ i h. (tt, ((refl, omega arith), h)))

members_long : (ms : List ℕ) → length (flat_map u16 ms) ≡ 2 * length ms
members_long [] = refl
members_long (m ∷ ms) = let long : length (flat_map u16 (m ∷ ms)) ≡ 2 + length (flat_map u16 ms) = omega arith in omega (arith, long, members_long ms)

-- a view has few members, so its statement is short
pub view_info_short : (i : ViewInfo) → is_view i.view ≡ true → length (view_info i) ≤ 78
unfolding view_text
view_info_short i is =
    let long : length (view_info i) ≡ 16 + length (flat_map u16 i.view.members) = omega arith in
    omega (arith, long, members_long i.view.members, members-few i.view is)

pub view_info_small : (i : ViewInfo) → is_view i.view ≡ true → length (view_info i) < 2 ^ 32
view_info_small i is = let short = view_info_short i is in omega (arith, short)
