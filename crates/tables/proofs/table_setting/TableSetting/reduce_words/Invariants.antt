-- `reduce_words` meets its contract: after i turns the first i words stand reduced. Assumes nothing.
use Rattle.std.proofs.Common.{◌≡◌, length}
use Rattle.polynomials.specs.Indices.{filled}
use Rattle.tables.specs.Tables.{reduced_word_at}
use Rattle.tables.proofs.table_setting.TableSetting.reduce_words.Given as goal

abbrev pub invariant-loop-i : goal.invariant-loop-i
invariant-loop-i l = (l.out ≡ filled l.i (reduced_word_at l.self.accepted.setting l.words) l.initial.out) × (length l.out ≡ length l.initial.out)
