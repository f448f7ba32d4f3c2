-- `shifted_residues` meets its promise. Assumes nothing.
use Rattle.std.proofs.Common.{length}
use Rattle.polynomials.specs.Places.{shifted}
use Rattle.settings.specs.SharedAnswers.{writes-filled}
use Rattle.settings.specs.Settings.{base, places}
use Rattle.words.specs.Places.{places_checks}
use Rattle.words.specs.WordLaws.{places-checked}
use Rattle.words.proofs.shifted_residues.Goals as goal

pub split_shifted-requires : goal.split_shifted-requires
split_shifted-requires c =
    let s = c.in_ok-s.ensures in
    rw s.1 ((places-checked c.args.s c.args.word (length c.args.out.now) s.0).1)

pub returns : goal.returns
returns c =
    let a = c.args in
    let s = c.in_ok-s.s in
    let e = c.in_ok-s.ensures in
    rw (c.places.ensures, ← e.1) (writes-filled (places_checks s.setting a.word (length a.out.now)) (places s.setting) (shifted s.setting.p (base s.setting) a.word) a.out.now _ (rw e.1 e.0) c.split_shifted.ensures)
