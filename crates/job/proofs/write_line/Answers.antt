-- `write_line` writes the line from the array, and reads no further. Assumes nothing.
use Rattle.std.proofs.Common.{◌≡◌, ℕ, ◌≤◌, List, ◌++◌, length, drop, replicate, ap, arith, length-append}
use Rattle.jobs.specs.States.{line_of}
use Rattle.jobs.specs.Texts.{longest_line}
use Rattle.job.proofs.write_line.Goals as goal

within : (line rest after : List ℕ) (m : ℕ) → m ≡ length line → after ≡ line ++ rest → m ≤ length after
within line rest after m size e = omega (arith, ap length e, length-append line rest)

pub slice_bounds-line-end : goal.slice_bounds-line-end
slice_bounds-line-end g c =
    let put = c.put_line-size in
    within (line_of c.args.state) (drop put.result (replicate longest_line 0)) put.new.line put.result put.ensures.0 put.ensures.1
