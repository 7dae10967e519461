-- The spellings of entries are read as these entries again.
use Rattle.std.proofs.Common.{List, ap, refl, ◌≡◌, ◌∙◌, ◌∷◌, []}
use Rattle.std.specs.List.{cons_option}
use Rattle.std.specs.Prelude.{map}
use Rattle.node_rules.specs.Reopening.{entries_in, entry_of}
use Rattle.smart_base.specs.Lists.{Each}
use Rattle.vote_book.proofs.Entries.{spelling_is}
use Rattle.vote_book.specs.Entries.{FitsEntry, entry_decoded, entry_text}
use Rattle.vote_book.specs.declared.entry.LogEntry.{LogEntry}
use Rattle.node_laws.proofs.Damage.{one_read}

pub read_again : (entries : List LogEntry) → Each FitsEntry entries → entries_in (map entry_text entries) ≡ entries
read_again [] fit = refl
read_again (e ∷ es) fit =
    ap (λ (xs : List LogEntry). cons_option (entry_of (entry_decoded (entry_text e))) xs) (read_again es fit.1)
    ∙ one_read e es (entry_decoded (entry_text e)) (spelling_is e fit.0)
