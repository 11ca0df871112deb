use Rattle.std.proofs.Common.{◌≡◌, ◌-◌, length, take, drop, refl, arith}
use Rattle.h41_rows.proofs.AlphaTexts.{put}
use Rattle.h41_rows.proofs.alpha.put_behind.Goals as goal

pub returns : goal.returns
returns c =
    let text = c.args.text.now in
    let from = c.saturating_sub.result in
    let size : length c.args.old ≡ 24 = omega arith in
    put c.args.old text (take (length text - from) (drop from text)) c.copy_from_slice.new.self
    c.copy_from_slice-2.new.self from size c.saturating_sub.ensures refl
    c.copy_from_slice.ensures.after c.copy_from_slice-2.ensures.after
