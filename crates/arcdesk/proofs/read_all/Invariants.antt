-- What is known is what all the bytes so far leave.
use Rattle.desk_output.specs.Reading.{start}
use Rattle.desk_stream.specs.Run.{KnowsSome}
use Rattle.arcdesk.proofs.read_all.Given as goal

abbrev pub invariant-loop : goal.invariant-loop
invariant-loop l = KnowsSome start l.stream
