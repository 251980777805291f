-- `feed::feed` meets its contract: what the assembler tells, and the store's call where the command is whole.
use Rattle.std.proofs.Common.{arith}
use Rattle.model.specs.Table.{form128}
use Rattle.model.specs.Call.{call}
use Rattle.assembler.proofs.Holding.{more-short, whole-within}
use Rattle.feed.proofs.Results.{feeds-more, feeds-refused, feeds-whole}
use Rattle.feed.proofs.feed.Goals as goal

pub overflow_add-result : goal.overflow_add-result
overflow_add-result c = omega (arith, more-short c.in-More.ensures)

pub command-command-requires : goal.command-command-requires
command-command-requires c = whole-within c.in-Whole.ensures

pub returns-in-More : goal.returns-in-More
returns-in-More c = feeds-more (call form128) c.args.table.now c.args.time c.args.reply.now c.in-More.ensures

pub returns-in-Refused : goal.returns-in-Refused
returns-in-Refused c = rw c.silent.ensures (feeds-refused (call form128) c.args.table.now c.args.time c.args.reply.now c.in-Refused.ensures)

pub returns-in-Whole : goal.returns-in-Whole
returns-in-Whole c =
    feeds-whole (call form128) c.args.table.now c.args.time c.args.reply.now c.in-Whole.ensures c.command-command.ensures c.call-answer.ensures
