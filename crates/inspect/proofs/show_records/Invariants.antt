use Rattle.std.proofs.Common.{length, drop}
use Rattle.inspect.proofs.show_records.Given as goal
use Rattle.records.specs.Reading.{source, place}

-- what is left to read
abbrev pub decreases-loop-at : goal.decreases-loop-at
decreases-loop-at l = length (drop (place l.reader) (source l.reader))
