-- `ponds_labels::lead`: nothing placed, and then all under the root.
use mathlib.Core.Path.{◌≡◌}
use borrow.Author.Rules.{rules}
use lib.ListN.{length, replicate}
use Rattle.ponds_labels.proofs.LeadLaws.{lead_coming, lead_labelled}
use Rattle.ponds_labels.proofs.lead.Goals as goal

pub fork-requires : goal.fork-requires
fork-requires c =
    let e : c.fill.new.self ≡ replicate (length c.args.words.now) 0 = search rules in
    (lead_coming c.args.sheet.now.accepted c.requires.1 (rw c.requires.0 at e) _ c.new-lines.ensures, c.requires.1)

pub returns : goal.returns
returns c =
    let e : c.fill.new.self ≡ replicate (length c.args.words.now) 0 = search rules in
    lead_labelled c.args.sheet.now.accepted c.requires.1 (rw c.requires.0 at e) c.new-lines.ensures _ _ _ c.fork.ensures
