-- `reduce_words` meets its contract: after i turns the first i words stand reduced. Assumes nothing.
use Rattle.std.proofs.Common.{◌≡◌, ◌*◌, ◌<◌, refl, ap, arith, length, length-set}
use Rattle.std.proofs.Math.ListN.{get_or}
use Rattle.polynomials.specs.IndexLaws.{length-upto, filled_more}
use Rattle.polynomials.specs.Places.{entry}
use Rattle.settings.specs.Settings.{base, places}
use Rattle.tables.specs.Tables.{reduced_word_at}
use Rattle.tables.specs.TableLaws.{looked-up-room, looked-up-made}
use Rattle.tables.proofs.table_setting.TableSetting.reduce_words.Goals as goal

pub look_up-requires : goal.look_up-requires
look_up-requires c =
    let a = c.args in
    let s = a.self.accepted in
    let word = get_or a.words.now c.loop-i.i 0 in (
      omega (arith, ap length c.requires.0, length-upto (s.setting.p * s.setting.p) (entry s.setting.p (base s.setting))),
      looked-up-room s.setting a.held.now (places s.setting) word s.bounds c.requires.0 (c.type_inv.words c.loop-i.i).fits,
    )

pub loop-i-preserved : goal.loop-i-preserved
loop-i-preserved c =
    let a = c.args in
    let l = c.loop-i in
    let s = a.self.accepted in
    let v = c.look_up in
    let same : v.result ≡ reduced_word_at s.setting a.words.now l.i = looked-up-made s.setting a.held.now (places s.setting) (get_or a.words.now l.i 0) s.bounds c.requires.0 v.result refl v.ensures in
    (filled_more (reduced_word_at s.setting a.words.now) a.out.now l.out l.i v.result (omega (arith, c.requires.1)) l.invariant.0 same, simp length-set l.invariant.1)
