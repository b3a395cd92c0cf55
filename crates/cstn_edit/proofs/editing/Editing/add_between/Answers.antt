use Rattle.std.proofs.Common.{ℕ, ℤ, w32, List, ◌++◌, ap, ◌∙◌, codes, decimal, refl}
use Rattle.std.proofs.lemmas.Int.{to_z-of_z}
use Rattle.cstn_label.specs.Read.{marks}
use Rattle.cstn_change.specs.Changes.{adds, refusal}
use Rattle.cstn_change.specs.Read.{the_change_refusal}
use Rattle.cstn_edit.specs.Sessions.{EditSessionParts}
use Rattle.cstn_edit.specs.Edits.{edited_of, with_change, the_session}
use Rattle.cstn_reply.specs.Texts.{line}
use Rattle.cstn_edit.proofs.Edits.{accepted, refused}
use Rattle.cstn_edit.proofs.editing.Editing.add_between.Goals.{in-Ok, in-Err}
use Rattle.cstn_edit.proofs.editing.Editing.add_between.Goals as goal

pub returns : goal.returns
returns c =
    let s = c.self.inside.session in
    let a = marks c.args.label in
    let same = to_z-of_z w32 c.args.most c.ranges.most in
    let change = adds c.args.from.0 c.args.to.0 c.args.most a in
    let why = ap (λ (most : ℤ). refusal s.room (edited_of (the_session s)) (adds c.args.from.0 c.args.to.0 most a)) same in
    record {
      turn = elim c.match-add.branch [
        | in-Ok w ↦
            accepted c.args.self.now s c.add.new.self c.self.inside.names c.self.inside.verdict c.self.view_is c.self.invariant.0.room change c.match-add.text
            (w.in-Ok.ensures.refusal ∙ why)
            (w.text-is ∙ w.put_number.ensures
            ∙ ap (λ (xs : List ℕ). xs ++ line (codes "added " ++ decimal w.in-Ok.id)) c.requires.empty
            ∙ ap (λ (id : ℕ). line (codes "added " ++ decimal id)) w.in-Ok.ensures.id)
            (w.in-Ok.ensures.session refl ∙ ap (λ (most : ℤ). with_change (the_session s) (adds c.args.from.0 c.args.to.0 most a)) same)
            (ap (λ (x : EditSessionParts). x.cap) w.in-Ok.ensures.added)
        | in-Err w ↦
            refused c.args.self.now s c.add.new.self c.self.inside.names c.self.inside.verdict c.self.view_is c.self.invariant.0.room change c.match-add.text
            (the_change_refusal w.in-Err.error) (w.in-Err.ensures.refusal ∙ why) (w.text-is ∙ w.put_refusal.ensures.line) w.in-Err.ensures.refused
      ];
    }
