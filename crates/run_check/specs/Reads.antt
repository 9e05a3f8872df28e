-- The memory that a call reads. Definitions only. Assumes nothing.
use Rattle.run_stages.specs.Calls.{Memory, memory}
use Rattle.run_check.specs.declared.Memory as declared

abbrev pub memory_in : declared.Memory → Memory
memory_in m = memory m.order.now m.hints.now m.palette.now m.least.now m.words.now
