-- `finish` meets its promise. Assumes nothing.
use Rattle.std.proofs.Common.{sym, replicate, lit≤, length-take-le}
use Rattle.jobs.specs.Texts.{longest_line}
use Rattle.jobs.specs.FinishLaws.{line-room, finish-written}
use Rattle.jobs.proofs.state.finish.Goals as goal

pub slice_bounds-line-end : goal.slice_bounds-line-end
slice_bounds-line-end c =
    let line = c.put_line-size in
    line-room c.args.state (replicate longest_line 0) line.new.out line.result (lit≤ tt) line.ensures

pub slice_bounds-put-end : goal.slice_bounds-put-end
slice_bounds-put-end c = sym (length-take-le _ _ (line-room c.args.state (replicate longest_line 0) c.put_line-size.new.out c.put_line-size.result (lit≤ tt) c.put_line-size.ensures))

pub returns : goal.returns
returns c =
    let a = c.args in
    let line = c.put_line-size in
    finish-written a.state (replicate longest_line 0) line.new.out line.result (lit≤ tt) line.ensures a.out.now c.if-out-size.false c.put.ensures
