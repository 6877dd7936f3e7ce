use Rattle.std.proofs.Common.{arith, refl, rules}
use Rattle.geo_text.proofs.Named.{seven_bytes, six_bytes}
use Rattle.geo_text.proofs.word.Word.named.Goals as goal

pub returns-in-inside-clause-text : goal.returns-in-inside-clause-text
returns-in-inside-clause-text c = six_bytes c.args.text.now _ _ _ _ _ _ (search rules) (search rules) (search rules) (search rules) (search rules) (search rules) (omega arith)

pub returns-in-inside-clause-word : goal.returns-in-inside-clause-word
returns-in-inside-clause-word c = rw (returns-in-inside-clause-text c) refl

pub returns-in-kernel-clause-text : goal.returns-in-kernel-clause-text
returns-in-kernel-clause-text c = six_bytes c.args.text.now _ _ _ _ _ _ (search rules) (search rules) (search rules) (search rules) (search rules) (search rules) (omega arith)

pub returns-in-kernel-clause-word : goal.returns-in-kernel-clause-word
returns-in-kernel-clause-word c = rw (returns-in-kernel-clause-text c) refl

pub returns-in-guards-clause-text : goal.returns-in-guards-clause-text
returns-in-guards-clause-text c = six_bytes c.args.text.now _ _ _ _ _ _ (search rules) (search rules) (search rules) (search rules) (search rules) (search rules) (omega arith)

pub returns-in-guards-clause-word : goal.returns-in-guards-clause-word
returns-in-guards-clause-word c = rw (returns-in-guards-clause-text c) refl

pub returns-in-sights-clause-text : goal.returns-in-sights-clause-text
returns-in-sights-clause-text c = six_bytes c.args.text.now _ _ _ _ _ _ (search rules) (search rules) (search rules) (search rules) (search rules) (search rules) (omega arith)

pub returns-in-sights-clause-word : goal.returns-in-sights-clause-word
returns-in-sights-clause-word c = rw (returns-in-sights-clause-text c) refl

pub returns-in-polygon-clause-text : goal.returns-in-polygon-clause-text
returns-in-polygon-clause-text c = seven_bytes c.args.text.now _ _ _ _ _ _ (search rules) (search rules) (search rules) (search rules) (search rules) (search rules) _ (search rules) (omega arith)

pub returns-in-polygon-clause-word : goal.returns-in-polygon-clause-word
returns-in-polygon-clause-word c = rw (returns-in-polygon-clause-text c) refl
