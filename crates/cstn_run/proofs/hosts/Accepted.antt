-- An accepted moment of an id, and the names of its file.
use Rattle.std.proofs.Common.{◌≡◌, ◌<◌, ◌≤◌, ℕ, Bool, true, List, [], ◌∷◌, ◌++◌, length, map, ap, sym, subst, ◌∙◌, arith, String, Global, Vec, string_bytes}
use Rattle.std.specs.Prelude.{Option, Some, slice_index_or, nat_lt, is_none, codes, decimal}
use Rattle.std.specs.List.{All}
use Rattle.std.proofs.lemmas.List.{get_or-map, length-map}
use Rattle.cstn_label.specs.declared.nodes.NodeId.{NodeId}
use Rattle.cstn_net.specs.Limits.{most_time_points}
use Rattle.cstn_net.specs.Networks.{count}
use Rattle.cstn_exec.specs.Runs.{due}
use Rattle.cstn_exec.specs.Moves.{EventRefusal}
use Rattle.cstn_exec.specs.Answers.{Moment, Names, run_unless}
use Rattle.cstn_run.specs.hosted.Hosts.{HostParts, Opened, plan_of_file, net_at, bounds_at, case_at, named_last}
use Rattle.cstn_run.specs.hosted.Calls.{AskFile, AskNamed, Pass, FileIs, Told, answer_on, event_passed}
use Rattle.cstn_exec.specs.Running.{AreShort, the_nodes, spaced, moment_line}
use Rattle.cstn_exec.proofs.Names.{called_inside, called_few}
use Rattle.cstn_run.specs.hosted.Sessions.{with_id}
use Rattle.cstn_run.specs.hosted.SessionRead.{the_names, IsHostSession}
use Rattle.cstn_run.proofs.hosts.Moments.{Moved, after_moment, moved_by, named_then, run_then, file_is, named_is}
use Rattle.cstn_run.proofs.hosts.PutLines.{first_line}

-- the time-points that the answer to a moment names, as the host after the moment has them
told_after : (host new : HostParts) (id t : ℕ) → new ≡ after_moment host id t → Told (Names (named_last new id)) ≡ answer_on host id (Pass (Moment t)) → Told (Names (named_last (after_moment host id t) id)) ≡ answer_on host id (Pass (Moment t))
told_after host new id t is told = ap (λ (h : HostParts). Told (Names (named_last h id))) (sym is) ∙ told

moved_now : (host new : HostParts) (id t : ℕ) → new ≡ after_moment host id t → Told (Names (named_last new id)) ≡ answer_on host id (Pass (Moment t)) → Moved host id t
moved_now host new id t is told = moved_by host id t (named_last new id) told

module _ (host new : HostParts) (id t : ℕ) (m : Moved host id t) (is : new ≡ after_moment host id t) where
  file_now : (file : ℕ) → FileIs file ≡ answer_on new id AskFile → file ≡ m.before.file
  file_now file told = file_is host id t m file (told ∙ ap (λ (h : HostParts). answer_on h id AskFile) is)

  named_now : (xs : List ℕ) → Told (Names xs) ≡ answer_on new id AskNamed → xs ≡ named_then host id t m
  named_now xs told = named_is host id t m xs (told ∙ ap (λ (h : HostParts). answer_on h id AskNamed) is)

-- the printed names of a file
texts_at : (names : List (Vec (String Global) Global)) (k : ℕ) (one : Vec (String Global) Global) (texts : List (String Global)) → one ≡ slice_index_or names k one → texts ≡ one.items → k < length names → map string_bytes texts ≡ slice_index_or (the_names names) k []
texts_at names k one texts one_is texts_are inside =
    ap (map string_bytes) texts_are
    ∙ ap (λ (v : Vec (String Global) Global). map string_bytes v.items) one_is
    ∙ sym (get_or-map (λ (v : Vec (String Global) Global). map string_bytes v.items) names k one [] inside)

-- a file of the host has printed names
file_within : (host new : HostParts) (names : List (Vec (String Global) Global)) (file : ℕ) → length (the_names names) ≡ length host.plans → new.plans ≡ host.plans → file < length new.plans → file < length names
file_within host new names file many same inside =
    let plans : length new.plans ≡ length host.plans = ap length same in
    let size = length-map names (λ (v : Vec (String Global) Global). map string_bytes v.items) in
    omega (arith, many, plans, size, inside)

-- whether all is executed after an accepted moment
pub done_then : (host new : HostParts) (id t : ℕ) (m : Moved host id t) (b : Bool) → new ≡ after_moment host id t → ((c : Opened) → nat_lt id 64 ≡ true → case_at new id ≡ Some c → b ≡ is_none (due (net_at new.plans c.file) (bounds_at new.plans c.file) c.run)) → b ≡ is_none (due (net_at host.plans m.before.file) (bounds_at host.plans m.before.file) (run_then host id t m))
done_then host new id t m b after each =
    let file : ℕ = m.before.file in
    each (event_passed host.plans m.before (Moment t)) m.below (ap (λ (h : HostParts). case_at h id) after ∙ m.now)
    ∙ ap (λ (h : HostParts). is_none (due (net_at h.plans file) (bounds_at h.plans file) (event_passed host.plans m.before (Moment t)).run)) after
    ∙ ap (λ (r : Option EventRefusal). is_none (due (net_at host.plans file) (bounds_at host.plans file) (run_unless m.before.run (run_then host id t m) r))) m.accepted

-- A moment of the id was accepted, and the host has told the file and the time-points that it named. They have printed names.
pub record Taken (host : HostParts) (id t : ℕ) (names : List (Vec (String Global) Global)) (file : ℕ) (texts : List (String Global)) (xs : List NodeId) : Type 0 where
  pub moved : Moved host id t
  pub told : Told (Names (named_last (after_moment host id t) id)) ≡ answer_on host id (Pass (Moment t))
  pub same : file ≡ moved.before.file
  pub inside : file < length names
  pub texts_are : map string_bytes texts ≡ slice_index_or (the_names names) file []
  pub nodes_are : the_nodes xs ≡ named_then host id t moved

-- what the calls of the host have told
pub taken : (host new : HostParts) (id t : ℕ) (names : List (Vec (String Global) Global)) (file : ℕ) (one : Vec (String Global) Global) (texts : List (String Global)) (xs : List NodeId) →
    length (the_names names) ≡ length host.plans → new ≡ after_moment host id t → new.plans ≡ host.plans → Told (Names (named_last new id)) ≡ answer_on host id (Pass (Moment t)) →
    FileIs file ≡ answer_on new id AskFile → file < length new.plans → Told (Names (the_nodes xs)) ≡ answer_on new id AskNamed →
    one ≡ slice_index_or names file one → texts ≡ one.items → Taken host id t names file texts xs
taken host new id t names file one texts xs many after plans accepted file_told file_inside named_told one_is texts_are =
    let m = moved_now host new id t after accepted in
    let within = file_within host new names file many plans file_inside in
    record {
      moved = m;
      told = told_after host new id t after accepted;
      same = file_now host new id t m after file file_told;
      inside = within;
      texts_are = texts_at names file one texts one_is texts_are within;
      nodes_are = named_now host new id t m after (the_nodes xs) named_told;
    }

-- what is put for an accepted moment: the printed names of the file's time-points that were named
module _ (host : HostParts) (id t : ℕ) (names : List (Vec (String Global) Global)) (session : IsHostSession host.plans (the_names names)) (file : ℕ) (texts : List (String Global)) (xs : List NodeId) (k : Taken host id t names file texts xs) where
  short : AreShort (plan_of_file host.plans file).net (slice_index_or (the_names names) file [])
  short = let many = session.as_many in let inside = k.inside in let size = length-map names (λ (v : Vec (String Global) Global). map string_bytes v.items) in session.short file (omega (arith, inside, many, size))

  few : count (net_at host.plans k.moved.before.file) ≤ most_time_points
  few = subst (λ (k : ℕ). count (net_at host.plans k) ≤ most_time_points) k.same short.few

  pub texts_inside : All (λ (x : NodeId). x.0 < length texts) xs
  texts_inside =
      called_inside (net_at host.plans k.moved.before.file) (bounds_at host.plans k.moved.before.file) k.moved.before.run t xs (length texts) k.nodes_are
      (sym (length-map texts string_bytes) ∙ ap length k.texts_are ∙ short.all ∙ ap (λ (k : ℕ). count (net_at host.plans k)) k.same)

  pub texts_short : All (λ name. length name ≤ 192) (map string_bytes texts)
  texts_short = subst (λ (ts : List (List ℕ)). All (λ name. length name ≤ 192) ts) (sym k.texts_are) short.each

  pub few_named : length xs ≤ most_time_points
  few_named = let most = few in let all = called_few (net_at host.plans k.moved.before.file) (bounds_at host.plans k.moved.before.file) k.moved.before.run t xs k.nodes_are in omega (arith, most, all)

  -- the line of the moment
  pub line_is : (text with_it new : List ℕ) → text ≡ [] → with_it ≡ text ++ (decimal id ++ 32 ∷ []) → new ≡ with_it ++ moment_line (map string_bytes texts) t (the_nodes xs) → new ≡ with_id id (codes "at " ++ decimal t ++ spaced (slice_index_or (the_names names) k.moved.before.file []) (named_then host id t k.moved))
  line_is text with_it new empty id_is is =
      first_line text with_it new id (codes "at " ++ decimal t ++ spaced (map string_bytes texts) (the_nodes xs)) empty id_is is
      ∙ ap (λ (ts : List (List ℕ)). with_id id (codes "at " ++ decimal t ++ spaced ts (the_nodes xs))) k.texts_are
      ∙ ap (λ (k : ℕ). with_id id (codes "at " ++ decimal t ++ spaced (slice_index_or (the_names names) k []) (the_nodes xs))) k.same
      ∙ ap (λ (ns : List ℕ). with_id id (codes "at " ++ decimal t ++ spaced (slice_index_or (the_names names) k.moved.before.file []) ns)) k.nodes_are
