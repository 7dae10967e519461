-- What a crash leaves of a member's store, as a script names it, and of which book.
use Rattle.std.specs.Prelude.{ℕ, ◌-◌, ◌==◌, Bool, ◌||◌, List, [], ◌∷◌, ◌++◌, length, replicate, if◌then◌else◌, Option, option_map}
use Rattle.smart_base.specs.Lists.{or_else}
use Rattle.disk_model.specs.Cells.{Cells, put}
use Rattle.store_laws.specs.Restored.{Images}
use Rattle.store_laws.specs.States.{StoreState, is_torn}
use Rattle.world_rules.specs.Wrong.{wrong_in}
use Rattle.world_rules.specs.declared.crash.Image.{Image}
use Rattle.world_rules.specs.declared.crash.Image.TheVariants.{Old, New}
use Rattle.world_rules.specs.declared.crash.Patch.{Patch}
use Rattle.world_rules.specs.declared.crash.NotAnImage.{NotAnImage}

-- the bytes that reads of the four devices give
abbrev pub bytes_held : StoreState → Images
bytes_held s = record { even_log = s.devices.even_log.now; odd_log = s.devices.odd_log.now; even_slot = s.devices.even_slot.now; odd_slot = s.devices.odd_slot.now }

-- the bytes of a device at its last sync, or as it reads now
abbrev pub cells_left : Image → Cells → List ℕ
cells_left Old s = s.sure
cells_left New s = s.now

-- bytes with a patch; a gap before the patch is filled with zeros
abbrev pub patched : Patch → List ℕ → List ℕ
patched p bytes = put p.at p.bytes (bytes ++ replicate (p.at - length bytes) 0)

-- bytes with all patches of a device, in order
abbrev pub with_patches : ℕ → List Patch → List ℕ → List ℕ
with_patches device [] bytes = bytes
with_patches device (p ∷ ps) bytes = with_patches device ps (if p.device == device then patched p bytes else bytes)

-- the bytes of the four devices after a crash, as a script names them: an image with patches
abbrev pub images_left : Image → List Patch → StoreState → Images
images_left image patches s = record {
  even_log = with_patches 0 patches (cells_left image s.devices.even_log);
  odd_log = with_patches 1 patches (cells_left image s.devices.odd_log);
  even_slot = with_patches 2 patches (cells_left image s.devices.even_slot);
  odd_slot = with_patches 3 patches (cells_left image s.devices.odd_slot);
}

abbrev pub wrong_on : ℕ → Cells → List ℕ → Option NotAnImage
wrong_on device cells bytes = option_map (λ at. record { device = device; at = at }) (wrong_in cells bytes)

-- the first byte that no crash leaves, by device 0 to 3; none if a crash may leave these bytes
unfoldable pub wrong_images : StoreState → Images → Option NotAnImage
wrong_images s left =
    or_else (wrong_on 0 s.devices.even_log left.even_log)
    (or_else (wrong_on 1 s.devices.odd_log left.odd_log) (or_else (wrong_on 2 s.devices.even_slot left.even_slot) (wrong_on 3 s.devices.odd_slot left.odd_slot)))

-- ---- the book that it leaves

-- a store that has not closed a gate that an earlier crash left: one that is torn or absent after the groups of its log, or a torn one of a slot
abbrev pub is_unclosed : StoreState → Bool
is_unclosed s = s.torn || (is_torn s.even || is_torn s.odd)

-- the book of which a crash now leaves a front: what this life has written, or an earlier one until no gate is torn
abbrev pub written_book : {A : Type 0} → StoreState → List A → List A → List A
written_book s book aside = if is_unclosed s then aside else book

-- the book of the earlier life, until no gate is torn; then it is lost
abbrev pub still_aside : {A : Type 0} → StoreState → List A → List A
still_aside s aside = if is_unclosed s then aside else []
