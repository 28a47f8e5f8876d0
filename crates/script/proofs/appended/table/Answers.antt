use Rattle.words.specs.Hex.{hex_in}
use Rattle.script.proofs.Reading.{hex_read}
use Rattle.script.proofs.appended.table.Goals as goal

pub returns : goal.returns
returns c =
    hex_read (hex_in c.args.word.now) c.args.bytes.now c.hex.new.bytes c.hex.result c.hex.ensures
