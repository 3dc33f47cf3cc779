use Rattle.std.proofs.Common.{◌-◌, length}
use Rattle.filerules.specs.Said.{said}
use Rattle.records.specs.Reading.{source, place}
use Rattle.swapfile.proofs.Steps.{SoFar}
use Rattle.swapfile.proofs.file.read.Given as goal

abbrev pub invariant-loop-draft : goal.invariant-loop-draft
invariant-loop-draft l = SoFar l.bytes (source l.reader) (place l.reader) (said l.draft)

abbrev pub decreases-loop-draft : goal.decreases-loop-draft
decreases-loop-draft l = length (source l.reader) - place l.reader
