-- A crash may leave a device as it was at its last sync, and as it reads.
use Rattle.disk_model.specs.Cells.{Cells, IsImage, IsSound}
use Rattle.world_rules.specs.Crashes.{cells_left}
use Rattle.world_rules.specs.declared.crash.Image.{Image}
use Rattle.world_rules.specs.declared.crash.Image.TheVariants.{Old, New}

pub left_image : (image : Image) (cells : Cells) → IsSound cells → IsImage cells (cells_left image cells)
left_image Old cells sound = sound.was_sure
left_image New cells sound = sound.reads
