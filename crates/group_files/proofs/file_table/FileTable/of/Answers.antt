use Rattle.group_files.specs.Names.{IsName}
use Rattle.group_files.specs.Files.{FileFits}
use Rattle.group_files.proofs.file_table.FileTable.of.Goals as goal

pub of-requires : goal.of-requires
unfolding FileFits IsName
of-requires c =
    let fits = c.requires.each c.loop-file.file-index c.file-item.result c.loop-file-test.true in
    rw c.file-item.is fits.0.1
