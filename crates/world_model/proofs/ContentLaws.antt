-- What gets and infos give is what was put.
use Rattle.std.proofs.Common.{◌≡◌, ℕ, zero, suc, ◌-◌, ◌*◌, ◌≤◌, ◌⊎◌, nat_le, min, Bool, true, false, ◌&&◌, cond, List, [], ◌∷◌, length, take, drop, Option, Some, None, refl, sym, ap, ◌∙◌, subst, inl, inr, arith, bytes_eq}
use Rattle.std.proofs.lemmas.Bool.Decides.{nat_tests}
use Rattle.blob_id.specs.declared.blob.Blob.{Blob}
use Rattle.blob_id.specs.declared.id.BlobId.{BlobId}
use Rattle.cell_model.specs.declared.cell.Cell.TheVariants.{Absent, Held}
use Rattle.quorum_op.specs.declared.outcome.Outcome.{Outcome}
use Rattle.quorum_op.proofs.CountLaws.{and_left, and_right}
use Rattle.world_model.specs.declared.history.Begun.{Begun}
use Rattle.world_model.specs.declared.history.HistoryMark.TheVariants.{End}
use Rattle.world_model.specs.Lists.{Has, Earlier, Each}
use Rattle.world_model.specs.Notes.{clock_of}
use Rattle.world_model.specs.Outcomes.{BeganAt, Began, IsReadIn, IsWithin, ReadsInfo, ReadsSimple, ReadsParts, IsWhole}
use Rattle.world_model.specs.Pieces.{Metadata, is_metadata, is_ceiling, only_metadata, spell_metadata, metadata_of, listed, parts, Window, window_of, seen, past}
use Rattle.world_model.specs.Record.{Part, Top, Chunk, Item, Marked, Drawn, Record}
use Rattle.world_model.specs.Router.{PutsTop, IsStoredIn, part_blob, Keeps, IsKept}
use Rattle.world_model.specs.Rules.{Rules}
use Rattle.world_model.specs.Safe.{DrawsNew, PutUnder, IsHeldIn, ShowsPut, ShowsHeld, InfoOfPut, InfoOfHeld, GivesContent}
use Rattle.world_model.specs.World.{Cells, Run}
use Rattle.world_model.proofs.ListLaws.{earlier_tail, earlier_trans, each_earlier, each_from, has_later}
use Rattle.world_model.proofs.PieceLaws.{Agree, seen_agree, all_parts, part_length, rest_length}
use Rattle.world_model.proofs.RouterLaws.{began_later, bytes_follows, chunk_not_whole, drawn_at, drawn_once, end_decided, info_follows, metadata_listed, simple_not_composite}
use Rattle.world_model.proofs.SourceLaws.{some_same}
use Rattle.world_model.proofs.StoredLaws.{brought_stored, new_earlier}
use Rattle.world_model.proofs.WorldLaws.{run_earlier}

-- ---- metadata

metadata_ranges : (bytes : List ℕ) (m : Metadata) → metadata_of bytes ≡ Some m → is_metadata m ≡ true
unfolding metadata_of
metadata_ranges bytes m h = go (bytes_eq bytes (spell_metadata (only_metadata bytes)) && is_metadata (only_metadata bytes)) refl h
  where
    go : (b : Bool) → (bytes_eq bytes (spell_metadata (only_metadata bytes)) && is_metadata (only_metadata bytes)) ≡ b → cond b (Some (only_metadata bytes)) None ≡ Some m → is_metadata m ≡ true
    go true e k = subst (λ (w : Metadata). is_metadata w ≡ true) (some_same _ _ k) (and_right _ _ e)
    go false e k = absurd cc

at_most_true : (a b : ℕ) → nat_le a b ≡ true → a ≤ b
at_most_true a b h = grind (arith, nat_tests)

-- the listed chunks hold all bytes
metadata_enough : (bytes : List ℕ) (m : Metadata) → metadata_of bytes ≡ Some m → m.total ≤ length m.ids * m.chunk
metadata_enough bytes m h =
    let r : is_metadata m ≡ true = metadata_ranges bytes m h in
    let c : is_ceiling (length m.ids) m.total m.chunk ≡ true = and_right _ _ (and_left _ _ r) in
    at_most_true m.total (length m.ids * m.chunk) (and_right _ _ c)

-- ---- the put of an id

-- the put that drew an id of a whole blob
record TopDrawn (rules : Rules) (record' : Record) (operation attempt : ℕ) (id : BlobId) (blob : Blob) : Type 0 where
  drew : Has record' (Drawn operation Top attempt id blob)
  at : Record
  back : Earlier at record'
  file : List ℕ
  body : List ℕ
  ttl : ℕ
  ctype : List ℕ
  meta : List ℕ
  then : Record
  began : BeganAt record' operation (Begun.Put file body ttl ctype meta) then
  puts : PutsTop rules.shape at operation then body ctype meta id blob

top_drawn : (rules : Rules) (record' : Record) (operation : ℕ) (part : Part) (attempt : ℕ) (id : BlobId) (blob : Blob) → IsKept rules record' → IsWhole id → Has record' (Drawn operation part attempt id blob) → TopDrawn rules record' operation attempt id blob
top_drawn rules record' operation Top attempt id blob k w h =
    let a = drawn_at rules record' operation Top attempt id blob k h in
    record {
      drew = h;
      at = a.at;
      back = a.back;
      file = a.draws.file;
      body = a.draws.body;
      ttl = a.draws.ttl;
      ctype = a.draws.ctype;
      meta = a.draws.meta;
      then = a.draws.then;
      began = earlier_trans _ a.at record' a.draws.began a.back;
      puts = a.draws.puts;
    }
top_drawn rules record' operation (Chunk n) attempt id blob k w h = let a = drawn_at rules record' operation (Chunk n) attempt id blob k h in absurd (chunk_not_whole id a.draws.puts.2 w)

put_under : (rules : Rules) (record' : Record) (operation attempt : ℕ) (id : BlobId) (blob : Blob) → IsWhole id → (a : TopDrawn rules record' operation attempt id blob) → PutUnder record' id a.body a.ctype a.meta (clock_of a.then)
put_under rules record' operation attempt id blob k a = record {
  operation = operation;
  attempt = attempt;
  blob = blob;
  drew = a.drew;
  kind = k;
  file = a.file;
  ttl = a.ttl;
  then = a.then;
  began = a.began;
  clock = refl;
}

under_later : (older record' : Record) (id : BlobId) (body ctype meta : List ℕ) (created : ℕ) → Earlier older record' → PutUnder older id body ctype meta created → PutUnder record' id body ctype meta created
under_later older record' id body ctype meta created e u = record {
  operation = u.operation;
  attempt = u.attempt;
  blob = u.blob;
  drew = has_later older record' _ e u.drew;
  kind = u.kind;
  file = u.file;
  ttl = u.ttl;
  then = u.then;
  began = earlier_trans _ older record' u.began e;
  clock = u.clock;
}

put_later : (older record' : Record) (id : BlobId) (range : Option (ℕ × ℕ)) (bytes : List ℕ) → Earlier older record' → ShowsPut older id range bytes → ShowsPut record' id range bytes
put_later older record' id range bytes e s = (s.0, s.1, s.2, s.3, under_later older record' id s.0 s.1 s.2 s.3 e s.4, s.5, s.6)

-- ---- the bytes of a get

simple_shown : (rules : Rules) (opening : Cells) (d : Record) (operation : ℕ) (id : BlobId) (range : Option (ℕ × ℕ)) (bytes : List ℕ) → Run opening d → IsKept rules d → ReadsSimple rules.shape d operation id range bytes
    → ShowsPut d id range bytes ⊎ ShowsHeld opening id range bytes
simple_shown rules opening d operation id range bytes run kept r =
    elim (brought_stored rules opening d operation Top id r.blob run kept r.read.1) [
      | inl w ↦ (
          let a = top_drawn rules d w.0 w.1 w.2 id r.blob kept (inl r.kind) w.3 in
          elim a.puts [
            | inl s ↦ (
                let body : r.blob.body ≡ a.body = ap (λ (b : Blob). b.body) s.2 in
                inl (
                  a.body,
                  a.ctype,
                  a.meta,
                  clock_of a.then,
                  put_under rules d w.0 w.2 id r.blob (inl r.kind) a,
                  subst (λ (l : List ℕ). IsWithin (window_of range (length l)) (length l)) body r.within,
                  r.shows ∙ ap (λ (l : List ℕ). seen (window_of range (length l)) l) body,
                ))
            | inr c ↦ absurd (simple_not_composite id r.kind c.1)
          ])
      | inr o ↦ inr (o.0, o.1, r.blob, o.2, inl (r.kind, r.within, r.shows))
    ]

-- what was read is what the put cut
parts_agree : (rules : Rules) (opening : Cells) (d at then : Record) (operation putting chunk : ℕ) (k : ℕ) (ids : List BlobId) (contents : List (List ℕ)) (n : ℕ) (body : List ℕ) (w : Window) (left : ℕ)
    → Run opening d → IsKept rules d → DrawsNew opening d → Earlier at d → left ≡ length body → IsReadIn rules.shape d operation chunk left w k ids contents → IsStoredIn rules.shape at putting then k ids (parts n chunk body) → Agree w contents (parts n chunk body)
parts_agree rules opening d at then operation putting chunk k [] [] zero body w left run kept new back e r s = tt
parts_agree rules opening d at then operation putting chunk k [] [] (suc n) body w left run kept new back e r s = absurd s
parts_agree rules opening d at then operation putting chunk k [] (c ∷ cs) n body w left run kept new back e r s = absurd r
parts_agree rules opening d at then operation putting chunk k (id ∷ ids) [] n body w left run kept new back e r s = absurd r
parts_agree rules opening d at then operation putting chunk k (id ∷ ids) (c ∷ cs) zero body w left run kept new back e r s = absurd s
parts_agree rules opening d at then operation putting chunk k (id ∷ ids) (c ∷ cs) (suc n) body w left run kept new back e r s = (
  r.0 ∙ (ap (λ (m : ℕ). min chunk m) e ∙ sym (part_length chunk body)),
  λ t. (
      let b = r.1 t in
      let drew : Has d (Drawn putting (Chunk k) s.0.0 id (part_blob then (take chunk body))) = has_later at d _ back s.0.1 in
      elim (brought_stored rules opening d operation (Chunk k) id b.0 run kept b.1.1) [
        | inl q ↦ (
            let one = drawn_once d q.0 putting q.1 (Chunk k) q.2 s.0.0 id b.0 (part_blob then (take chunk body)) new.once q.3 drew in
            let same : b.0 ≡ part_blob then (take chunk body) = cc one in
            sym b.2 ∙ ap (λ (x : Blob). x.body) same)
        | inr o ↦ absurd (let q : Absent ≡ Held b.0 = sym (new.cells id (putting, Chunk k, s.0.0, part_blob then (take chunk body), drew) o.0 o.1) ∙ o.2 in cc q)
      ]),
  parts_agree rules opening d at then operation putting chunk (suc k) ids cs n (drop chunk body) (past w (length c)) (left - chunk) run kept new back (ap (λ (m : ℕ). m - chunk) e ∙ sym (rest_length chunk body)) r.2 s.1,
)

-- what was read of chunks that an opening blob lists was held at opening
parts_held : (rules : Rules) (opening : Cells) (d : Record) (operation chunk left : ℕ) (w : Window) (k : ℕ) (ids : List BlobId) (contents : List (List ℕ)) (m p : ℕ) (top : BlobId) (held : Blob)
    → Run opening d → IsKept rules d → DrawsNew opening d → opening m p top ≡ Held held → ((id : BlobId) → Has ids id → Has (listed top held) id) → IsReadIn rules.shape d operation chunk left w k ids contents → IsHeldIn opening chunk left w ids contents
parts_held rules opening d operation chunk left w k [] [] m p top held run kept new o l r = tt
parts_held rules opening d operation chunk left w k [] (c ∷ cs) m p top held run kept new o l r = absurd r
parts_held rules opening d operation chunk left w k (id ∷ ids) [] m p top held run kept new o l r = absurd r
parts_held rules opening d operation chunk left w k (id ∷ ids) (c ∷ cs) m p top held run kept new o l r = (
  r.0,
  λ t. (
      let b = r.1 t in
      elim (brought_stored rules opening d operation (Chunk k) id b.0 run kept b.1.1) [
        | inl q ↦ absurd (new.listed id (q.0, q.1, q.2, b.0, q.3) m p top held o (l id (inl refl)))
        | inr q ↦ (q.0, q.1, b.0, q.2, b.2)
      ]),
  parts_held rules opening d operation chunk (left - chunk) (past w (length c)) (suc k) ids cs m p top held run kept new o (λ i h. l i (inr h)) r.2,
)

parts_shown : (rules : Rules) (opening : Cells) (d : Record) (operation : ℕ) (id : BlobId) (range : Option (ℕ × ℕ)) (bytes : List ℕ) → Run opening d → IsKept rules d → DrawsNew opening d → ReadsParts rules.shape d operation id range bytes
    → ShowsPut d id range bytes ⊎ ShowsHeld opening id range bytes
parts_shown rules opening d operation id range bytes run kept new r =
    elim (brought_stored rules opening d operation Top id r.blob run kept r.read.1) [
      | inl w ↦ (
          let a = top_drawn rules d w.0 w.1 w.2 id r.blob kept (inr r.kind) w.3 in
          elim a.puts [
            | inl s ↦ absurd (simple_not_composite id s.1 r.kind)
            | inr c ↦ (
                let lists = c.3 in
                let body : List ℕ = a.body in
                let m : Metadata = r.metadata in
                let same : lists.metadata ≡ m = some_same _ _ (sym lists.reads ∙ r.reads) in
                let total : m.total ≡ length body = ap (λ (x : Metadata). x.total) (sym same) ∙ lists.total in
                let stored : IsStoredIn rules.shape a.at w.0 a.then 0 m.ids (parts (length m.ids) m.chunk body) =
                subst (λ (x : Metadata). IsStoredIn rules.shape a.at w.0 a.then 0 x.ids (parts (length x.ids) x.chunk body)) same lists.stored in
                let enough : length body ≤ length m.ids * m.chunk = subst (λ (n : ℕ). n ≤ length m.ids * m.chunk) total (metadata_enough r.blob.body m r.reads) in
                let agree = parts_agree rules opening d a.at a.then operation w.0 m.chunk 0 m.ids r.contents (length m.ids) body (window_of range m.total) m.total run kept new a.back total r.parts stored in
                let shows : bytes ≡ seen (window_of range m.total) body =
                r.shows ∙ (seen_agree (window_of range m.total) r.contents (parts (length m.ids) m.chunk body) agree ∙ ap (λ (l : List ℕ). seen (window_of range m.total) l) (all_parts (length m.ids) m.chunk body enough)) in
                inl (
                  body,
                  a.ctype,
                  a.meta,
                  clock_of a.then,
                  put_under rules d w.0 w.2 id r.blob (inr r.kind) a,
                  subst (λ (n : ℕ). IsWithin (window_of range n) n) total r.within,
                  shows ∙ ap (λ (n : ℕ). seen (window_of range n) body) total,
                ))
          ])
      | inr o ↦ inr (
        o.0,
        o.1,
        r.blob,
        o.2,
        inr (
          r.kind,
          (
            r.metadata,
            r.contents,
            r.reads,
            r.within,
            parts_held rules opening d operation r.metadata.chunk r.metadata.total (window_of range r.metadata.total) 0 r.metadata.ids r.contents o.0 o.1 id r.blob run kept new o.2 (λ i h. metadata_listed id r.blob r.metadata i r.kind r.reads h) r.parts,
            r.shows,
          ),
        ),
      )
    ]

-- ---- the properties of an info

put_as : (record' : Record) (id : BlobId) (body ctype meta t m : List ℕ) (created c : ℕ) → t ≡ ctype → m ≡ meta → c ≡ created → PutUnder record' id body ctype meta created → PutUnder record' id body t m c
put_as record' id body ctype meta t m created c e f g u =
    subst (λ (x : List ℕ). PutUnder record' id body x m c) (sym e) (subst (λ (x : List ℕ). PutUnder record' id body ctype x c) (sym f) (subst (λ (x : ℕ). PutUnder record' id body ctype meta x) (sym g) u))

info_shown : (rules : Rules) (opening : Cells) (d : Record) (operation : ℕ) (id : BlobId) (size created : ℕ) (ctype meta : List ℕ) (blob : Blob) → Run opening d → IsKept rules d → ReadsInfo rules.shape d operation id size blob
    → created ≡ blob.created → ctype ≡ blob.ctype → meta ≡ blob.meta → InfoOfPut d id size created ctype meta ⊎ InfoOfHeld opening id size created ctype meta
info_shown rules opening d operation id size created ctype meta blob run kept r c t m =
    elim (brought_stored rules opening d operation Top id blob run kept r.read.1) [
      | inl w ↦ (
          let whole : IsWhole id = elim r.sized [ inl z ↦ inl z.0 | inr z ↦ inr z.0 ] in
          let a = top_drawn rules d w.0 w.1 w.2 id blob kept whole w.3 in
          elim a.puts [
            | inl s ↦ inl (
              a.body,
              put_as d id a.body a.ctype a.meta ctype meta (clock_of a.then) created
                  (t ∙ ap (λ (b : Blob). b.ctype) s.2) (m ∙ ap (λ (b : Blob). b.meta) s.2) (c ∙ ap (λ (b : Blob). b.created) s.2) (put_under rules d w.0 w.2 id blob whole a),
              elim r.sized [
                | inl z ↦ z.1 ∙ ap (λ (b : Blob). length b.body) s.2
                | inr z ↦ absurd (simple_not_composite id s.1 z.0)
              ],
            )
            | inr k ↦ inl (
              a.body,
              put_as d id a.body a.ctype a.meta ctype meta (clock_of a.then) created
                  (t ∙ ap (λ (b : Blob). b.ctype) k.2) (m ∙ ap (λ (b : Blob). b.meta) k.2) (c ∙ ap (λ (b : Blob). b.created) k.2) (put_under rules d w.0 w.2 id blob whole a),
              elim r.sized [
                | inl z ↦ absurd (simple_not_composite id z.0 k.1)
                | inr z ↦ (
                    let lists = k.3 in
                    let same : z.1.0 ≡ lists.metadata = some_same _ _ (sym z.1.1 ∙ lists.reads) in
                    z.1.2 ∙ (ap (λ (x : Metadata). x.total) same ∙ lists.total))
              ],
            )
          ])
      | inr o ↦ inr (o.0, o.1, blob, o.2, c, t, m, r.sized)
    ]

-- ---- both

pub content_law : (rules : Rules) (opening : Cells) (record' : Record) → Run opening record' → IsKept rules record' → DrawsNew opening record' → Each (GivesContent opening) record'
content_law rules opening record' run kept new = each_from (GivesContent opening) record' at
  where
    bytes_law : (before : Record) (operation : ℕ) (bytes : List ℕ) → Earlier (Marked (End operation (Outcome.Bytes bytes)) ∷ before) record' → GivesContent opening (Marked (End operation (Outcome.Bytes bytes))) before
    bytes_law before operation bytes e =
        let d = end_decided rules record' before operation (Outcome.Bytes bytes) kept e in
        let f = bytes_follows rules d.then operation d.begun bytes d.follows in
        let to : Earlier d.then before = earlier_tail _ d.then before d.at in
        let d_back : Earlier d.then record' = earlier_trans d.then before record' to (earlier_tail _ before record' e) in
        let d_run : Run opening d.then = run_earlier opening record' d.then run d_back in
        let d_kept : IsKept rules d.then = each_earlier (Keeps rules) record' d.then kept d_back in
        let shown : ShowsPut d.then f.0 f.1 bytes ⊎ ShowsHeld opening f.0 f.1 bytes = elim f.4 [
          | inl s ↦ simple_shown rules opening d.then operation f.0 f.1 bytes d_run d_kept s
          | inr s ↦ parts_shown rules opening d.then operation f.0 f.1 bytes d_run d_kept (new_earlier opening d.then record' d_back new) s
        ] in (
          f.0,
          f.1,
          f.2,
          began_later d.then before operation (Begun.Get (Some f.0) f.1 f.2) to (subst (λ (w : Begun). Began d.then operation w) f.3 d.began),
          elim shown [
            | inl s ↦ inl (put_later d.then before f.0 f.1 bytes to s)
            | inr s ↦ inr s
          ],
        )

    info_law : (before : Record) (operation size created : ℕ) (ctype meta : List ℕ) → Earlier (Marked (End operation (Outcome.Info size created ctype meta)) ∷ before) record' → GivesContent opening (Marked (End operation (Outcome.Info size created ctype meta))) before
    info_law before operation size created ctype meta e =
        let d = end_decided rules record' before operation (Outcome.Info size created ctype meta) kept e in
        let f = info_follows rules d.then operation d.begun size created ctype meta d.follows in
        let to : Earlier d.then before = earlier_tail _ d.then before d.at in
        let d_back : Earlier d.then record' = earlier_trans d.then before record' to (earlier_tail _ before record' e) in
        let d_run : Run opening d.then = run_earlier opening record' d.then run d_back in
        let d_kept : IsKept rules d.then = each_earlier (Keeps rules) record' d.then kept d_back in
        let shown = info_shown rules opening d.then operation f.0 size created ctype meta f.2.0 d_run d_kept f.2.1 f.2.2 f.2.3 f.2.4 in (
          f.0,
          began_later d.then before operation (Begun.Info (Some f.0)) to (subst (λ (w : Begun). Began d.then operation w) f.1 d.began),
          elim shown [
            | inl s ↦ inl (s.0, under_later d.then before f.0 s.0 ctype meta created to s.1, s.2)
            | inr s ↦ inr s
          ],
        )

    at : (item : Item) (before : Record) → Earlier (item ∷ before) record' → GivesContent opening item before
    at (Marked (End operation (Outcome.Info size created ctype meta))) before e = info_law before operation size created ctype meta e
    at (Marked (End operation (Outcome.Bytes bytes))) before e = bytes_law before operation bytes e
    at _ before e = tt
