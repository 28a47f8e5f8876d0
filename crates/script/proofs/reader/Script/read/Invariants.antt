use Rattle.std.proofs.Common.{◌≡◌, map}
use Rattle.std.specs.List.{flat_map}
use Rattle.script.specs.Lines.{line_said}
use Rattle.script.specs.Meant.{Sound, said_of}
use Rattle.script.proofs.reader.Script.read.Given as goal

abbrev pub invariant-loop-line : goal.invariant-loop-line
invariant-loop-line l = Sound l.script × (said_of l.script ≡ flat_map line_said (map (λ line. line.now) l.yielded))
